use Rattle.std.proofs.Common.{◌∙◌, sym}
use Rattle.al_session_folder.proofs.Affecting.{elsewhere_is}
use Rattle.al_session_folder.proofs.affected.PlannedChange.has_same_answer.Goals as goal

pub returns-then-not-has_candidate : goal.returns-then-not-has_candidate
returns-then-not-has_candidate g c =
    elsewhere_is g.L.Lint.meaning g.L.Lint.is_unit g.L.Iface.PartialEq.eq g.met.L.Iface.Eq.laws.refl c.self.inside.files.now.entries c.self.inside.path.now c.self.inside.next
    c.args.self.now c.self.view_is c.self.invariant c.args.target.now (rw (← c.self.view_is) (sym c.has_candidate.ensures ∙ c.if-not-has_candidate.true))

pub returns : goal.returns
returns g c = rw (c.answer-before.ensures, c.as_is.ensures, c.answer.ensures, c.after.ensures.folder) at c.is_same.ensures
