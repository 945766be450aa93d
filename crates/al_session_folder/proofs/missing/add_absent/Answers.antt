use Rattle.std.proofs.Common.{arith}
use Rattle.al_session_folder.specs.Kept.{folder_of, referents}
use Rattle.al_session_folder.proofs.Missings.{next_absent}
use Rattle.al_session_folder.proofs.missing.add_absent.Goals as goal

pub loop-target-preserved : goal.loop-target-preserved
loop-target-preserved g c =
    next_absent (folder_of c.args.files.now.entries) (referents c.args.missing.now.items) (referents c.loop-target.missing.items)
    (referents c.add_candidates.new.missing.items) c.args.targets.now c.loop-target.target-index c.target-item.result
    (omega (arith, c.loop-target-test.true)) c.target-item.is c.loop-target.invariant c.in_ok-add_candidates.ensures
