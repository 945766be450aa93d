use Rattle.std.proofs.Common.{Some, ap, refl}
use Rattle.std.proofs.lemmas.Option.{slice_get-map}
use Rattle.al_session_folder.specs.Kept.{folder_of, entry_of}
use Rattle.al_session.proofs.session.Session.path_at.Goals as goal

pub returns-in-Some : goal.returns-in-Some
returns-in-Some g c =
    let files = c.self.inside.kept.files.entries in
    rw (← c.self.view_is, slice_get-map (λ e. e.0) (folder_of files) c.args.number, slice_get-map entry_of files c.args.number, ← c.in-Some.ensures.entry) (ap Some c.as_str.ensures.value)

pub returns-in-None : goal.returns-in-None
returns-in-None g c =
    let files = c.self.inside.kept.files.entries in
    rw (← c.self.view_is, slice_get-map (λ e. e.0) (folder_of files) c.args.number, slice_get-map entry_of files c.args.number, ← c.in-None.ensures.entry) refl
