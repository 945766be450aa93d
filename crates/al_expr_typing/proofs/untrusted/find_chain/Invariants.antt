use Rattle.std.proofs.Common.{◌≡◌, ◌∷◌, map, drop}
use Rattle.al_expr_grammar.specs.View.{step_of}
use Rattle.std.specs.Prelude.{find}
use Rattle.std.specs.Cmp.Lexicographic.{pointwise}
use Rattle.al_base.specs.Names.{same_name}
use Rattle.al_expr_typing.specs.Untrusted.{chain_part}
use Rattle.al_expr_typing.proofs.untrusted.find_chain.Given as goal

abbrev pub invariant-loop-chain : goal.invariant-loop-chain
invariant-loop-chain l =
    find (λ p. pointwise same_name p (l.name ∷ map chain_part (map step_of l.steps))) (map (λ p. map (λ q. q.now) p.now) (drop l.chain-index l.chains))
    ≡ find (λ p. pointwise same_name p (l.name ∷ map chain_part (map step_of l.steps))) (map (λ p. map (λ q. q.now) p.now) l.chains)
