use Rattle.std.proofs.Common.{arith, ◌∙◌, length}
use Rattle.std.proofs.lemmas.List.{take_all}
use Rattle.std.proofs.lemmas.List.Folds.{flat_map-map}
use Rattle.al_base.specs.declared.faults.Fault.{Fault}
use Rattle.al_base.specs.Spans.{LiesIn}
use Rattle.al_base.proofs.Bytes.{Appends-next}
use Rattle.al_base.proofs.Writing.{fails_in_element, succeeds}
use Rattle.al_text.specs.Snippets.{text_in}
use Rattle.al_session_folder.proofs.ListedFaults.{all-referred}
use Rattle.al_session.proofs.report.write_referred.Goals as goal

pub write_fault-requires : goal.write_fault-requires
write_fault-requires g c =
    let inside = all-referred (λ (fault : Fault). LiesIn (length c.args.file.now.bytes.now) fault.span) c.args.faults.now c.loop-fault.fault-index
    c.fault-item.result c.requires.within (omega (arith, c.loop-fault-test.true)) c.fault-item.is in
    record { within = rw c.loop-fault.invariant.same inside }

pub returns-in_err-write_fault : goal.returns-in_err-write_fault
returns-in_err-write_fault g c =
    rw (flat_map-map (text_in c.args.file.now) _ c.args.faults.now)
    (fails_in_element _ _ _ _ (λ r. text_in c.args.file.now r.now) c.args.faults.now c.loop-fault.fault-index c.fault-item.result
    (omega (arith, c.loop-fault-test.true)) c.fault-item.is c.loop-fault.invariant.appended c.loop-fault.invariant.unfailed _ _ c.from_residual.ensures.1
    (rw c.loop-fault.invariant.same at c.in_err-write_fault.ensures.written))

pub loop-fault-preserved : goal.loop-fault-preserved
loop-fault-preserved g c =
    let written = rw c.loop-fault.invariant.same at c.in_ok-write_fault.ensures.written in
    record {
      appended = Appends-next (λ r. text_in c.args.file.now r.now) c.args.faults.now c.loop-fault.fault-index
          c.fault-item.result (omega (arith, c.loop-fault-test.true)) c.fault-item.is _ _ _ c.loop-fault.invariant.appended written.all;
      unfailed = written.failures ∙ c.loop-fault.invariant.unfailed;
      same = c.in_ok-write_fault.ensures.file ∙ c.loop-fault.invariant.same;
    }

pub returns : goal.returns
returns g c =
    let whole = take_all c.loop-fault.fault-index c.args.faults.now (omega (arith, c.loop-fault-test.false)) in
    rw (flat_map-map (text_in c.args.file.now) _ c.args.faults.now) (succeeds _ _ _ _ _ (rw whole at c.loop-fault.invariant.appended) c.loop-fault.invariant.unfailed)
