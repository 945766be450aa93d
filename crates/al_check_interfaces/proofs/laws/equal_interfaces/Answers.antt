use Rattle.std.proofs.Common.{subst}
use Rattle.std.specs.Prelude.{◌≡◌, true}
use Rattle.al_check_interfaces.specs.contracts.interfaces.InterfaceEq.TheImpl.Laws as laws
use Rattle.al_check_interfaces.specs.contracts.interfaces.InterfacePartialEq.TheImpl as interface
use Rattle.al_check_interfaces.proofs.Exact.{exact}
use Rattle.al_check_interfaces.proofs.laws.equal_interfaces.Goals as goal

pub returns-clause-same : goal.returns-clause-same
returns-clause-same c = exact

pub returns-clause-equal : goal.returns-clause-equal
returns-clause-equal c a b same = subst (λ x. interface.ghosts.eq a x ≡ true) same (laws.laws-law.refl a)
