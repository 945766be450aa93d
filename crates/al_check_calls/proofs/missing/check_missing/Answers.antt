use Rattle.std.proofs.Common.{map}
use Rattle.std.proofs.lemmas.List.Sorted.{IsPermutation-map}
use Rattle.al_base.proofs.Sets.{mapped_in, step_last, step_more}
use Rattle.al_check_calls.specs.Private.ComparisonViews.{compared_of}
use Rattle.al_check_calls.specs.Private.Comparing.{HaveOneSignature, missing_of}
use Rattle.al_check_calls.proofs.Alike.{tell_next, tell_permuted}
use Rattle.al_check_calls.proofs.MissingNames.{order_found}
use Rattle.al_check_calls.proofs.missing.check_missing.Goals as goal

pub check_next-requires-clause-alike : goal.check_next-requires-clause-alike
check_next-requires-clause-alike c =
    let calls = c.deref-call-items.result.now in
    tell_next HaveOneSignature compared_of calls c.loop-call.previous c.call-item.result
    (tell_permuted HaveOneSignature (map compared_of c.args.comparisons.items) (map compared_of calls)
    (IsPermutation-map compared_of c.args.comparisons.items calls (rw c.deref-call-items.ensures.value c.sort_unstable_by_key.ensures.permutation)) c.requires)
    c.loop-call.invariant.there (mapped_in compared_of calls c.loop-call.call-index c.call-item.result c.loop-call-test.true c.call-item.is)

pub loop-call-preserved : goal.loop-call-preserved
loop-call-preserved c =
    let calls = c.deref-call-items.result.now in
    record {
      there = mapped_in compared_of calls c.loop-call.call-index c.call-item.result c.loop-call-test.true c.call-item.is;
      said = c.in_ok-left.ensures.said;
      set = step_more missing_of compared_of calls c.loop-call.call-index c.call-item.result c.args.faults.now c.loop-call.faults
          c.check_next.new.faults c.loop-call-test.true c.call-item.is c.loop-call.invariant.set c.in_ok-left.ensures.faults;
    }

pub returns : goal.returns
returns c =
    let calls = c.deref-call-items.result.now in
    order_found c.args.comparisons.items calls c.args.faults.now c.loop-call.faults (rw c.deref-call-items.ensures.value c.sort_unstable_by_key.ensures.permutation)
    (step_last missing_of compared_of calls c.loop-call.call-index c.args.faults.now c.loop-call.faults c.loop-call-test.false c.loop-call.invariant.set)
