use Rattle.al_session.proofs.session.Session.sorted_paths.Goals as goal

pub returns : goal.returns
returns g c = rw (← c.self.view_is) c.self.invariant.0.kept.ordered
