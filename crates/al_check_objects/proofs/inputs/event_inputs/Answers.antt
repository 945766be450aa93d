use Rattle.std.proofs.Common.{◌∙◌, [], ap, arith, length}
use Rattle.std.proofs.lemmas.List.{take_all}
use Rattle.std.proofs.lemmas.Result.{IfOk-weaker}
use Rattle.al_tree.specs.Inputs.{input_of}
use Rattle.al_tree.specs.Values.{member_of}
use Rattle.al_expr_types.specs.Tables.{objects_of}
use Rattle.al_yaml_tree.specs.View.{view}
use Rattle.al_check_objects.specs.Inputs.{input_type, input_field}
use Rattle.al_check_objects.specs.Numbers.{Means}
use Rattle.al_check_objects.proofs.FieldLists.{put_next}
use Rattle.al_check_objects.proofs.inputs.event_inputs.Goals as goal

pub loop-input-preserved : goal.loop-input-preserved
loop-input-preserved c = λ types.
    let x = c.input-item.result in
    let means : Means types c.scalar-ty.result (input_type (input_of (view x.value.now))) = record {
      known = c.scalar-ty.ensures.below (length types.objects.items);
      is = c.scalar-ty.ensures.ty (objects_of types) ∙ c.type_of_input.ensures ∙ ap input_type c.input_of.ensures;
    } in
    rw (put_next member_of input_field [] c.as_slice-input-items.result.now c.loop-input.input-index x c.loop-input-test.true c.input-item.is)
    (rw c.text.ensures at (c.in_ok-fields.ensures types _ _ (c.loop-input.invariant types) means))

pub into_type-requires-clause-fields : goal.into_type-requires-clause-fields
into_type-requires-clause-fields c = (c.loop-input.invariant c.args.types.now).known

pub returns : goal.returns
returns c =
    let all = take_all c.loop-input.input-index c.as_slice-input-items.result.now (omega (arith, c.loop-input-test.false)) in
    record {
      ty = IfOk-weaker c.into_type.result _ _
          (λ ty means. rw (all, c.as_slice-input-items.ensures.value, c.in_ok-declared.ensures, c.value_below_three.ensures)
          at (means _ (c.loop-input.invariant c.args.types.now))) c.into_type.ensures.ty;
      kept = c.into_type.ensures.kept;
    }
