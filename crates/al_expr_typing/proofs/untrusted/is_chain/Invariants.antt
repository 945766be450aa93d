use Rattle.std.proofs.Common.{◌≡◌, map, drop}
use Rattle.std.specs.Cmp.Lexicographic.{pointwise}
use Rattle.al_base.specs.Names.{same_name}
use Rattle.al_expr_grammar.specs.View.{step_of}
use Rattle.al_expr_typing.specs.Untrusted.{chain_part}
use Rattle.al_expr_typing.proofs.untrusted.is_chain.Given as goal

abbrev pub invariant-loop-index : goal.invariant-loop-index
invariant-loop-index l =
    pointwise same_name (map (λ p. p.now) (drop l.index l.rest)) (map chain_part (map step_of (drop l.index l.steps)))
    ≡ pointwise same_name (map (λ p. p.now) l.rest) (map chain_part (map step_of l.steps))
