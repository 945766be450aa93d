use Rattle.std.proofs.Common.{sym, ◌∙◌, append-nil}
use Rattle.std.proofs.lemmas.List.{map_push}
use Rattle.al_session_folder.specs.Kept.{referents}
use Rattle.al_session_folder.proofs.Views.{has_file}
use Rattle.al_session_folder.proofs.missing.add_if_absent.Goals as goal

pub returns-then-contains_key : goal.returns-then-contains_key
returns-then-contains_key g c =
    let known = sym (rw c.as_str.ensures.text at c.contains_key.ensures) ∙ c.if-contains_key.true in
    rw (← has_file c.args.files.now.entries c.args.path.now, known) (sym (append-nil (referents c.args.missing.now.items)))

pub returns : goal.returns
returns g c =
    let known = sym (rw c.as_str.ensures.text at c.contains_key.ensures) ∙ c.if-contains_key.false in
    rw (← has_file c.args.files.now.entries c.args.path.now, known, c.in_ok-push.ensures.items) (map_push _ c.args.missing.now.items c.args.path)
