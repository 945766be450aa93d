use Rattle.std.proofs.Common.{◌≡◌, true, false, refl, sym, ◌∙◌}
use Rattle.std.specs.Prelude.{bytes_eq}
use Rattle.std.specs.Option.{option_copied}
use Rattle.al_session_folder.specs.Kept.{IsKept}
use Rattle.al_session_folder.proofs.Views.{bytes_after, bytes_kept, holds_copied, kept_after, kept_at}
use Rattle.al_session_folder.proofs.view.FolderView.file.Goals.{in_default-via-in-Some+else-eq, in_default-via-in_default}
use Rattle.al_session_folder.proofs.view.FolderView.file.Goals as goal

pub returns-in-Some-clause-bytes : goal.returns-in-Some-clause-bytes
returns-in-Some-clause-bytes g c =
    let view = rw c.in-Some.is at c.self.invariant in
    let same : bytes_eq c.args.at.now c.in-Some.path.now ≡ true = sym (rw c.in-Some.is at c.eq.ensures) ∙ c.if-eq.true in
    let there = bytes_after c.self.inside.files.now.entries c.in-Some.path.now c.args.at.now (option_copied c.self.inside.next) view.kept.ordered in
    rw (← c.self.view_is, c.in-Some.is) (sym (rw same at there))

pub returns-in-Some-clause-kept : goal.returns-in-Some-clause-kept
returns-in-Some-clause-kept g c =
    let same : bytes_eq c.args.at.now c.in-Some.path.now ≡ true = sym (rw c.in-Some.is at c.eq.ensures) ∙ c.if-eq.true in
    holds_copied (IsKept g.L.Lint.meaning g.L.Lint.is_unit c.args.at.now) _ c.self.inside.next (rw same refl)
    (λ file. kept_after g.L.Lint.meaning g.L.Lint.is_unit c.self.inside.files.now.entries c.in-Some.path.now c.args.at.now (option_copied c.self.inside.next) file
    (rw c.in-Some.is at c.self.invariant))

pub returns-in_default-clause-bytes : goal.returns-in_default-clause-bytes
returns-in_default-clause-bytes g c = elim c.in_default.branch [
  | in_default-via-in-Some+else-eq w ↦
      let view = rw w.in-Some.is at c.self.invariant in
      let other : bytes_eq c.args.at.now w.in-Some.path.now ≡ false = sym (rw w.in-Some.is at w.eq.ensures) ∙ w.if-eq.false in
      let there = bytes_after c.self.inside.files.now.entries w.in-Some.path.now c.args.at.now (option_copied c.self.inside.next) view.kept.ordered in
      rw (← c.self.view_is, w.in-Some.is, c.get.ensures.value) (sym (rw other at there))
  | in_default-via-in_default w ↦ rw (← c.self.view_is, w.in_default.is, c.get.ensures.value) (sym (bytes_kept c.self.inside.files.now.entries c.args.at.now))
]

pub returns-in_default-clause-kept : goal.returns-in_default-clause-kept
returns-in_default-clause-kept g c =
    holds_copied (IsKept g.L.Lint.meaning g.L.Lint.is_unit c.args.at.now) _ c.get.result c.get.ensures.value
    (λ file. kept_at g.L.Lint.meaning g.L.Lint.is_unit c.self.inside.files.now.entries c.args.at.now file (elim c.in_default.branch [
      | in_default-via-in-Some+else-eq w ↦ (rw w.in-Some.is at c.self.invariant).kept.kept
      | in_default-via-in_default w ↦ (rw w.in_default.is at c.self.invariant).kept
    ]))
