use Rattle.al_check_interfaces.proofs.Placeless.{no_places, nothing_else}
use Rattle.al_check_interfaces.proofs.laws.interfaces_of_trees.Goals as goal

pub returns-clause-places : goal.returns-clause-places
returns-clause-places c = no_places

pub returns-clause-others : goal.returns-clause-others
returns-clause-others c = nothing_else
