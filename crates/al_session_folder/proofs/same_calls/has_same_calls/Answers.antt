use Rattle.std.proofs.lemmas.Slice.Eq.{slice_eq-Decides}
use Rattle.al_lint.specs.Proofs.Targets.{targets_decide}
use Rattle.al_session_folder.proofs.same_calls.has_same_calls.Goals as goal

pub returns : goal.returns
returns c = slice_eq-Decides targets_decide c.args.one.now c.args.other.now c.eq.result c.eq.ensures
