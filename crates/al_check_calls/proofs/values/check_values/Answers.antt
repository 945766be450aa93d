use Rattle.std.proofs.Common.{arith, ap, ◌∙◌, map, sym}
use Rattle.std.proofs.lemmas.List.{take_all}
use Rattle.std.proofs.lemmas.List.Elements.{All-contains}
use Rattle.al_base.proofs.Sets.{list_more}
use Rattle.al_check_contexts.specs.Environments.{file_of}
use Rattle.al_check_contexts.proofs.Environments.{moved_further}
use Rattle.al_check_interfaces.specs.CallViews.{call_of}
use Rattle.al_tree.specs.Values.{member_of}
use Rattle.al_check_calls.specs.Preconditions.{AreShort}
use Rattle.al_check_calls.specs.AnswerViews.{typing_in}
use Rattle.al_check_calls.specs.Private.Comparing.{wrong_value}
use Rattle.al_check_calls.proofs.Short.{members_short}
use Rattle.al_check_calls.proofs.values.check_values.Goals as goal

pub check_value-requires-clause-short : goal.check_value-requires-clause-short
check_value-requires-clause-short c =
    let members = c.deref-member-items.result.now in
    All-contains (λ m. AreShort (member_of m).1) members c.member-item.result
    (members_short members _ _ (ap (map member_of) c.deref-member-items.ensures.value ∙ c.in_ok-members_under.ensures) c.requires.short)
    (c.loop-member.member-index, c.loop-member-test.true, sym c.member-item.is)

pub loop-member-preserved : goal.loop-member-preserved
loop-member-preserved c =
    let was = c.loop-member.invariant in
    let made = c.in_ok-check_value.ensures in
    record {
      moved = moved_further _ _ _ was.moved made.moved;
      faults = list_more (wrong_value (typing_in (file_of c.args.env.now)) (call_of c.args.call) c.args.inputs.now) member_of c.deref-member-items.result.now
          c.loop-member.member-index c.member-item.result c.args.faults.now c.loop-member.faults c.check_value.new.faults c.loop-member-test.true
          c.member-item.is was.faults (rw was.moved.file at made.faults);
    }

pub returns-clause-faults : goal.returns-clause-faults
returns-clause-faults c =
    rw (
      take_all c.loop-member.member-index c.deref-member-items.result.now (omega (arith, c.loop-member-test.false)),
      c.deref-member-items.ensures.value,
      c.in_ok-members_under.ensures,
    ) at c.loop-member.invariant.faults
