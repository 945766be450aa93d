use Rattle.al_check_interfaces.proofs.Inside.{calls_lie}
use Rattle.al_check_interfaces.proofs.laws.calls_of_trees.Goals as goal

pub returns : goal.returns
returns c = calls_lie
