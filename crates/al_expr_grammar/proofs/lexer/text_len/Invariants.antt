use Rattle.std.proofs.Common.{◌≡◌, drop, false}
use Rattle.al_expr_grammar.specs.Tokens.{add_to}
use Rattle.al_expr_grammar.proofs.TextTails.{tail_from}
use Rattle.al_expr_grammar.proofs.lexer.text_len.Given as goal

abbrev pub invariant-loop-i : goal.invariant-loop-i
invariant-loop-i l = tail_from false l.bytes ≡ add_to l.i (tail_from l.closes (drop l.i l.bytes))
