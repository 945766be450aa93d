use Rattle.al_graph.proofs.BoundedWalks.{leads_tells}
use Rattle.al_graph.proofs.laws.walk_laws.Goals as goal

pub returns : goal.returns
returns c = leads_tells
