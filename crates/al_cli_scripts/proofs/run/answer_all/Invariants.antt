use Rattle.std.proofs.Common.{length, ◌-◌, ◌≡◌, ◌≤◌}
use Rattle.al_cli_scripts.specs.Replies.{session}
use Rattle.al_cli_scripts.proofs.Answering.{Answering}
use Rattle.al_cli_scripts.proofs.run.answer_all.Given as goal

abbrev pub invariant-loop-done : goal.invariant-loop-done
invariant-loop-done g l = record {
  within : l.done ≤ length l.waiting;
  served : Answering (session l.format) l.fn.session.folder l.session.folder l.waiting l.done (g.W.Write.contents l.fn.writer.inner) (g.W.Write.contents l.writer.inner);
  unfailed : l.writer.failures ≡ l.fn.writer.failures;
}

abbrev pub decreases-loop-done : goal.decreases-loop-done
decreases-loop-done g l = length l.waiting - l.done
