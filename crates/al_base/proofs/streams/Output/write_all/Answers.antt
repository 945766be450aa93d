use Rattle.std.proofs.Common.{rules}
use Rattle.std.proofs.lemmas.Grind.{common_steps}
use Rattle.al_base.proofs.Bytes.{Appends-more}
use Rattle.al_base.proofs.streams.Output.write_all.Goals as goal

pub loop-done-preserved : goal.loop-done-preserved
loop-done-preserved g c =
    record {
      within = search (rules, common_steps);
      appended = Appends-more _ _ _ c.args.bytes.now c.loop-done.done c.in-Ok.count c.loop-done.invariant.appended c.in-Ok.ensures.bytes;
      unfailed = search (rules, common_steps);
    }
