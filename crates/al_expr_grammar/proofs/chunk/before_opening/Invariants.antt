use Rattle.std.proofs.Common.{◌≡◌, drop}
use Rattle.al_expr_grammar.specs.Chunks.{before_opening}
use Rattle.al_expr_grammar.specs.Tokens.{add_to}
use Rattle.al_expr_grammar.proofs.chunk.before_opening.Given as goal

abbrev pub invariant-loop-i : goal.invariant-loop-i
invariant-loop-i l = before_opening l.bytes ≡ add_to l.i (before_opening (drop l.i l.bytes))
