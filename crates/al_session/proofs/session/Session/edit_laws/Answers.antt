use Rattle.al_session.proofs.EditLaws.{any_order, others_keep, same_put}
use Rattle.al_session.proofs.session.Session.edit_laws.Goals as goal

pub returns-clause-same : goal.returns-clause-same
returns-clause-same g c = rw (← c.self.view_is) (same_put g.L.Iface.PartialEq.eq g.met.L.Iface.Eq.laws.refl g.L.Lint.meaning _ c.self.invariant.0.kept.ordered)

pub returns-clause-order : goal.returns-clause-order
returns-clause-order g c = rw (← c.self.view_is) (any_order _ c.self.invariant.0.kept.ordered)

pub returns-clause-others : goal.returns-clause-others
returns-clause-others g c = others_keep g.L.Iface.PartialEq.eq g.met.L.Lint.exact g.L.Lint.meaning c.args.self.now.folder
