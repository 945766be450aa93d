use Rattle.std.proofs.Common.{arith, map}
use Rattle.std.proofs.lemmas.List.{take_all}
use Rattle.std.proofs.lemmas.Result.{on_ok_weaker}
use Rattle.al_base.proofs.Growing.{same_set}
use Rattle.al_base.proofs.Sets.{list_more}
use Rattle.al_check_calls.specs.Answers.{answered_faults}
use Rattle.al_check_calls.specs.AnswerViews.{answered_of, typing_in}
use Rattle.al_check_calls.specs.Private.ComparisonViews.{compared_of}
use Rattle.al_check_calls.specs.Private.Comparing.{faults_but_names, faults_of_names}
use Rattle.al_check_calls.proofs.Alike.{tell_signatures}
use Rattle.al_check_calls.proofs.CallParts.{call_parts}
use Rattle.al_check_calls.proofs.MissingNames.{all_names_found}
use Rattle.al_check_calls.proofs.Parts.{in_parts}
use Rattle.al_check_contexts.specs.Environments.{file_of}
use Rattle.al_check_contexts.proofs.Environments.{moved_further}
use Rattle.al_check_calls.proofs.faults.check_calls.Goals as goal

pub loop-one-preserved : goal.loop-one-preserved
loop-one-preserved c =
    let was = c.loop-one.invariant in
    let made = c.in_ok-check_call.ensures in
    record {
      moved = moved_further _ _ _ was.moved made.moved;
      faults = list_more (faults_but_names (typing_in (file_of c.args.env.now))) answered_of c.args.answered.now
          c.loop-one.one-index c.one-item.result c.args.faults.now c.loop-one.faults c.check_call.new.faults c.loop-one-test.true c.one-item.is
          was.faults (rw was.moved.file at made.faults);
    }

pub check_undefined-requires : goal.check_undefined-requires
check_undefined-requires c =
    rw (c.as_slice.ensures.value, c.in_ok-comparisons.ensures) (tell_signatures (map answered_of c.args.answered.now) c.requires.answers)

pub check_missing-requires : goal.check_missing-requires
check_missing-requires c = rw c.in_ok-comparisons.ensures (tell_signatures (map answered_of c.args.answered.now) c.requires.answers)

pub returns : goal.returns
returns c =
    let types = typing_in (file_of c.args.env.now) in
    let calls = map answered_of c.args.answered.now in
    let whole = take_all c.loop-one.one-index c.args.answered.now (omega (arith, c.loop-one-test.false)) in
    on_ok_weaker c.check_missing.result
    (λ found. in_parts (answered_faults types) (faults_but_names types) faults_of_names (call_parts types) calls c.args.faults.now c.loop-one.faults
    c.check_missing.new.faults (same_set _ _ (rw whole at c.loop-one.invariant.faults))
    (all_names_found calls (map compared_of c.in_ok-comparisons.comparisons.items) c.loop-one.faults c.check_undefined.new.faults
    c.check_missing.new.faults c.in_ok-comparisons.ensures (rw c.as_slice.ensures.value at c.in_ok-check_undefined.ensures) found)) c.check_missing.ensures
