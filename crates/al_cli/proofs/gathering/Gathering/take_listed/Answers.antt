use Rattle.al_cli.proofs.gathering.Gathering.take_listed.Goals as goal

pub take_each-requires-clause-listed : goal.take_each-requires-clause-listed
take_each-requires-clause-listed g c = rw c.in-Ok.ensures.stays c.in-Ok.ensures.listed

pub returns-in-Ok-clause-listed : goal.returns-in-Ok-clause-listed
returns-in-Ok-clause-listed g c = rw c.in-Ok.ensures.stays at c.take_each.ensures.listed

pub returns-in-Ok-clause-held : goal.returns-in-Ok-clause-held
returns-in-Ok-clause-held g c = rw c.in-Ok.ensures.stays at c.take_each.ensures.held

pub returns-in-Ok-clause-stays : goal.returns-in-Ok-clause-stays
returns-in-Ok-clause-stays g c = rw c.in-Ok.ensures.stays at c.take_each.ensures.stays
