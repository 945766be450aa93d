use Rattle.al_check_places.proofs.Scalars.{places_lie, places_have_texts}
use Rattle.al_check_places.proofs.laws.placed_scalars.Goals as goal

pub returns-clause-lie : goal.returns-clause-lie
returns-clause-lie c = places_lie

pub returns-clause-texts : goal.returns-clause-texts
returns-clause-texts c = places_have_texts
