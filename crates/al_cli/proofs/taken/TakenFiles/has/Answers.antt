use Rattle.std.proofs.Common.{◌≡◌, ◌∙◌, Option, None, Some, ap, refl}
use Rattle.std.specs.Borrow.{Bor}
use Rattle.std.specs.Option.{option_copied}
use Rattle.std.specs.Prelude.{is_some}
use Rattle.al_session.specs.Folder.{Folder, bytes_at}
use Rattle.al_cli.proofs.Keeping.{kept_as}
use Rattle.al_cli.proofs.taken.TakenFiles.has.Goals as goal

some_copied : {A : Type 0} (o : Option (Bor A)) → is_some o ≡ is_some (option_copied o)
some_copied None = refl
some_copied (Some x) = refl

pub returns : goal.returns
returns c =
    let kept = kept_as c.self.inside.files.folder c.self.inside.files.checks c.self.inside.order.items c.args.self.now c.self.invariant c.self.view_is in
    c.is_some.ensures ∙ some_copied c.bytes.result ∙ ap is_some c.bytes.ensures ∙ ap (λ (f : Folder). is_some (bytes_at f c.args.path.now)) kept.1
