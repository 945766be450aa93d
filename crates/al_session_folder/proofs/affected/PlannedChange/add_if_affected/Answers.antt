use Rattle.std.proofs.Common.{◌∙◌, sym}
use Rattle.al_session_folder.proofs.Views.{kept_at}
use Rattle.al_session_folder.proofs.Affecting.{touched_is, absent_is}
use Rattle.al_session_folder.proofs.affected.PlannedChange.add_if_affected.Goals as goal

pub owned_path-requires : goal.owned_path-requires
owned_path-requires g c = (kept_at g.L.Lint.meaning g.L.Lint.is_unit c.self.inside.files.now.entries c.args.name.now _ c.self.invariant.view.kept.kept (sym c.in-Some.ensures.value)).valid

pub returns-then-has_same_answers : goal.returns-then-has_same_answers
returns-then-has_same_answers g c =
    let touched = touched_is g.L.Lint.meaning g.L.Lint.is_unit g.L.Iface.PartialEq.eq g.met.L.Iface.Eq.laws.refl c.self.inside.files.now.entries c.self.inside.path.now c.self.inside.next
    c.args.self.now c.self.view_is c.self.invariant c.args.name.now c.in-Some.file.now c.has_same_answers.result (sym c.eq.ensures ∙ c.if-eq.false) c.in-Some.ensures.value
    (rw c.deref.ensures.value at c.has_same_answers.ensures) in
    rw (touched, c.if-has_same_answers.true)

pub returns-in_ok-push-in-Some : goal.returns-in_ok-push-in-Some
returns-in_ok-push-in-Some g c =
    let touched = touched_is g.L.Lint.meaning g.L.Lint.is_unit g.L.Iface.PartialEq.eq g.met.L.Iface.Eq.laws.refl c.self.inside.files.now.entries c.self.inside.path.now c.self.inside.next
    c.args.self.now c.self.view_is c.self.invariant c.args.name.now c.in-Some.file.now c.has_same_answers.result (sym c.eq.ensures ∙ c.if-eq.false) c.in-Some.ensures.value
    (rw c.deref.ensures.value at c.has_same_answers.ensures) in
    rw (touched, c.if-has_same_answers.false, ← c.in_ok-owned_path-in-Some.ensures) c.in_ok-push-in-Some.ensures.items

pub returns-in-None : goal.returns-in-None
returns-in-None g c =
    rw (absent_is g.L.Lint.meaning g.L.Lint.is_unit g.L.Iface.PartialEq.eq g.met.L.Iface.Eq.laws.refl c.self.inside.files.now.entries c.self.inside.path.now c.self.inside.next
    c.args.self.now c.self.view_is c.self.invariant c.args.name.now c.in-None.ensures.value)
