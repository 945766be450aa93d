use Rattle.std.proofs.Common.{map}
use Rattle.al_base.proofs.Sets.{mapped_in, step_last, step_more}
use Rattle.al_check_calls.specs.Private.ComparisonViews.{compared_of, name_of}
use Rattle.al_check_calls.specs.Private.Comparing.{HaveOneSignature, undefined_at}
use Rattle.al_check_calls.proofs.Alike.{tell_next}
use Rattle.al_check_calls.proofs.UndefinedNames.{added_there, names_found, names_told}
use Rattle.al_check_calls.proofs.undefined.check_undefined.Goals as goal

pub check_next_name-requires-clause-alike : goal.check_next_name-requires-clause-alike
check_next_name-requires-clause-alike c =
    let given = c.deref-name-items.result.now in
    tell_next (λ n m. HaveOneSignature n.by m.by) name_of given c.loop-name.previous c.name-item.result
    (names_told (map compared_of c.args.calls.now) c.in_ok-given.given.items given c.in_ok-given.ensures
    (rw c.deref-name-items.ensures.value c.sort_unstable_by_key.ensures.permutation) c.requires)
    c.loop-name.invariant.there (mapped_in name_of given c.loop-name.name-index c.name-item.result c.loop-name-test.true c.name-item.is)

pub loop-name-preserved : goal.loop-name-preserved
loop-name-preserved c =
    let given = c.deref-name-items.result.now in
    record {
      there = mapped_in name_of given c.loop-name.name-index c.name-item.result c.loop-name-test.true c.name-item.is;
      said = added_there c.loop-name.faults c.check_next_name.new.faults (undefined_at (name_of c.name-item.result)) c.in_ok-check_next_name.ensures;
      set = step_more undefined_at name_of given c.loop-name.name-index c.name-item.result c.args.faults.now c.loop-name.faults
          c.check_next_name.new.faults c.loop-name-test.true c.name-item.is c.loop-name.invariant.set c.in_ok-check_next_name.ensures;
    }

pub returns : goal.returns
returns c =
    let given = c.deref-name-items.result.now in
    names_found (map compared_of c.args.calls.now) c.in_ok-given.given.items given c.args.faults.now c.loop-name.faults c.in_ok-given.ensures
    (rw c.deref-name-items.ensures.value c.sort_unstable_by_key.ensures.permutation)
    (step_last undefined_at name_of given c.loop-name.name-index c.args.faults.now c.loop-name.faults c.loop-name-test.false c.loop-name.invariant.set)
