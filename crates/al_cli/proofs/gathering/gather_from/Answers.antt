use Rattle.al_cli.proofs.gathering.gather_from.Goals as goal

pub take_called-requires-clause-held : goal.take_called-requires-clause-held
take_called-requires-clause-held g c = rw c.in_ok-take_asked.ensures.stays c.in_ok-take_asked.ensures.held

pub returns : goal.returns
returns g c =
    let calling = c.in_ok-take_called.ensures.calling in
    record {
      first = c.take_asked.new.self.files;
      after = calling.after;
      all = calling.all;
      asked = c.in_ok-take_asked.ensures.asked;
      called = calling.called;
      held = rw c.in_ok-take_asked.ensures.stays at c.in_ok-take_called.ensures.held;
    }
