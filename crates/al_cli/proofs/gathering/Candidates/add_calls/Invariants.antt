use Rattle.al_cli.specs.Private.Turns.{AreAmong}
use Rattle.al_cli.specs.Taken.{called_by}
use Rattle.al_cli.proofs.gathering.Candidates.add_calls.Given as goal

abbrev pub invariant-loop-call : goal.invariant-loop-call
invariant-loop-call l = AreAmong (called_by l.files) l.self.waiting.keys
