use Rattle.std.proofs.Common.{◌≡◌, take}
use Rattle.al_check_interfaces.proofs.copies.copy_of_parameters.Given as goal

abbrev pub invariant-loop-parameter : goal.invariant-loop-parameter
invariant-loop-parameter l = l.copies.items ≡ take l.parameter-index l.parameter-items
