use Rattle.std.proofs.Common.{[], arith}
use Rattle.std.proofs.lemmas.List.{take_all}
use Rattle.std.proofs.lemmas.Result.{IfOk-weaker}
use Rattle.std.proofs.lemmas.Simd.{map-map}
use Rattle.al_tree.specs.Keys.{key_of}
use Rattle.al_tree.specs.Values.{member_of}
use Rattle.al_types.specs.Types.{String}
use Rattle.al_check_objects.proofs.FieldLists.{put_next, strings_once}
use Rattle.al_check_objects.proofs.Numbers.{string_means}
use Rattle.al_check_objects.proofs.objects.declared_strings.Goals as goal

pub loop-entry-preserved : goal.loop-entry-preserved
loop-entry-preserved c = λ types.
    rw (put_next (λ m. key_of (member_of m)) (λ k. (k, String)) [] c.args.entries.now c.loop-entry.entry-index c.entry-item.result c.loop-entry-test.true c.entry-item.is)
    (rw c.text.ensures at (c.in_ok-fields.ensures types _ String (c.loop-entry.invariant types) (string_means types)))

pub into_type-requires-clause-fields : goal.into_type-requires-clause-fields
into_type-requires-clause-fields c = (c.loop-entry.invariant c.args.types.now).known

pub returns : goal.returns
returns c =
    let entries = c.args.entries.now in
    let all = take_all c.loop-entry.entry-index entries (omega (arith, c.loop-entry-test.false)) in
    record {
      ty = IfOk-weaker c.into_type.result _ _
          (λ ty means. rw (all, strings_once _, ← map-map key_of member_of entries) at (means _ (c.loop-entry.invariant c.args.types.now))) c.into_type.ensures.ty;
      kept = c.into_type.ensures.kept;
    }
