use Rattle.std.proofs.Common.{◌≡◌, ◌++◌, drop, map}
use Rattle.al_check_interfaces.proofs.lists.positions_of.Given as goal

abbrev pub invariant-loop-parameter : goal.invariant-loop-parameter
invariant-loop-parameter l =
    map (λ n. n.now) l.names.items ++ map (λ p. p.name) (drop l.parameter-index l.parameters) ≡ map (λ p. p.name) l.parameters
