use Rattle.std.proofs.Common.{arith, ◌∙◌}
use Rattle.al_base.proofs.Bytes.{Appends-next}
use Rattle.al_base.proofs.Writing.{fails_in_element}
use Rattle.al_text.specs.Snippets.{text_in}
use Rattle.al_text.proofs.printer.write_faults.Goals as goal

pub returns-in_err-write_fault : goal.returns-in_err-write_fault
returns-in_err-write_fault g c =
    fails_in_element _ _ _ _ (text_in c.args.file.now) c.args.faults.now c.loop-fault.fault-index
    c.fault-item.result (omega (arith, c.loop-fault-test.true)) c.fault-item.is c.loop-fault.invariant.appended c.loop-fault.invariant.unfailed
    _ _ c.from_residual.ensures.1 (rw c.loop-fault.invariant.same at c.in_err-write_fault.ensures.written)

pub loop-fault-preserved : goal.loop-fault-preserved
loop-fault-preserved g c =
    let written = rw c.loop-fault.invariant.same at c.in_ok-write_fault.ensures.written in
    record {
      appended = Appends-next (text_in c.args.file.now) c.args.faults.now c.loop-fault.fault-index
          c.fault-item.result (omega (arith, c.loop-fault-test.true)) c.fault-item.is _ _ _ c.loop-fault.invariant.appended written.all;
      unfailed = written.failures ∙ c.loop-fault.invariant.unfailed;
      same = c.in_ok-write_fault.ensures.file ∙ c.loop-fault.invariant.same;
    }
