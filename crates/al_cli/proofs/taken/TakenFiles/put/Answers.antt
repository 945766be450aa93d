use Rattle.al_cli.proofs.taken.TakenFiles.put.Goals as goal

pub put_after-requires-clause-new : goal.put_after-requires-clause-new
put_after-requires-clause-new c = rw (c.self.view_is, c.in-Ok.ensures.path) c.requires

pub invariant_of-self : goal.invariant_of-self
invariant_of-self c = c.put_after.ensures.kept

pub returns-clause-put : goal.returns-clause-put
returns-clause-put c = rw (c.self.view_is, c.in-Ok.ensures.path) at c.put_after.ensures.put

pub returns-clause-as_before : goal.returns-clause-as_before
returns-clause-as_before c = rw c.self.view_is at c.put_after.ensures.as_before
