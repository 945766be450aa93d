use Rattle.al_laws.proofs.WalkBounds.{any_bound}
use Rattle.al_laws.proofs.walks.walk_bound.Goals as goal

pub returns : goal.returns
returns c = any_bound
