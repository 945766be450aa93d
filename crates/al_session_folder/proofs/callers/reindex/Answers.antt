use Rattle.std.proofs.Common.{ap, ◌∙◌}
use Rattle.std.specs.Prelude.{bytes_eq}
use Rattle.indexmap.specs.IndexSet.{contains_text}
use Rattle.al_session_folder.specs.Kept.{is_caller}
use Rattle.al_session_folder.proofs.Views.{bytes_same}
use Rattle.al_session_folder.proofs.Indexing.{undone}
use Rattle.al_session_folder.proofs.callers.reindex.Goals as goal

pub returns-in-Err-clause-as_before : goal.returns-in-Err-clause-as_before
returns-in-Err-clause-as_before c =
    let some = c.in-Err.ensures.some in
    λ c' q. undone (bytes_eq q c.args.path.now) (contains_text c.args.after.now c') (contains_text c.args.before.now c') (some.0 c') (is_caller c.args.callers.now c' q) _ _
    (λ h. ap (is_caller c.args.callers.now c') (bytes_same q c.args.path.now h) ∙ c.requires c') (some.1 c') (some.2 c' q) (c.drop_callers.ensures c' q)
