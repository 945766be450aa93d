use Rattle.al_session.proofs.session.Session.call_cycle_faults.Goals as goal

pub returns-clause-faults : goal.returns-clause-faults
returns-clause-faults g c = rw (← c.self.view_is) (rw c.linked_files-linked.ensures at c.find_call_cycle_faults.ensures)
