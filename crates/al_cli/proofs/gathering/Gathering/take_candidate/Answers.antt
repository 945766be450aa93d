use Rattle.al_cli.proofs.Endings.{on_ok}
use Rattle.al_cli.proofs.Turns.{among_taken}
use Rattle.al_cli.proofs.gathering.Gathering.take_candidate.Goals as goal

pub add_calls-requires : goal.add_calls-requires
add_calls-requires g c =
    among_taken c.args.self.now.files c.take.new.self.files _ c.args.self.now.candidates.waiting.keys c.take.new.self.candidates.waiting.keys
    (rw c.in-File.is at c.in_ok-take.ensures.taken) c.take.ensures.waiting c.requires.waiting

pub returns-in-File-clause-held : goal.returns-in-File-clause-held
returns-in-File-clause-held g c = on_ok c.add_calls.result c.in_ok-take.ensures.held

pub returns-in-File-clause-stays : goal.returns-in-File-clause-stays
returns-in-File-clause-stays g c = on_ok c.add_calls.result c.in_ok-take.ensures.stays
