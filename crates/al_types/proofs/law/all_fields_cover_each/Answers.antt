use Rattle.al_types.proofs.CoveredFields.{covered}
use Rattle.al_types.proofs.law.all_fields_cover_each.Goals as goal

pub returns : goal.returns
returns c fs rest n t is = covered fs rest n t is
