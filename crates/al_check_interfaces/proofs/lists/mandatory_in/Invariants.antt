use Rattle.std.proofs.Common.{◌≡◌, ◌++◌, drop}
use Rattle.al_check_interfaces.specs.Parameters.{mandatory_of}
use Rattle.al_check_interfaces.proofs.lists.mandatory_in.Given as goal

abbrev pub invariant-loop-parameter : goal.invariant-loop-parameter
invariant-loop-parameter l = l.found.items ++ mandatory_of (drop l.parameter-index l.parameters) ≡ mandatory_of l.parameters
