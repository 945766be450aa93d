use Rattle.std.proofs.Common.{◌∙◌, [], ap, arith, sym}
use Rattle.std.proofs.lemmas.List.{take_all}
use Rattle.std.proofs.lemmas.Result.{IfOk-weaker}
use Rattle.al_base.proofs.Growing.{begins_trans}
use Rattle.al_tree.specs.Names.{is_combination_key}
use Rattle.al_tree.specs.Values.{member_of}
use Rattle.al_expr_types.specs.Tables.{objects_of}
use Rattle.al_expr_types.proofs.Returned.{begins_ok}
use Rattle.al_check_objects.specs.Matrix.{row_field}
use Rattle.al_check_objects.proofs.FieldLists.{put_if_next}
use Rattle.al_check_objects.proofs.Numbers.{lists_stay}
use Rattle.al_check_objects.proofs.Values.{row_by}
use Rattle.al_check_objects.proofs.matrix.rows_type.Goals as goal

pub loop-entry-preserved-then-is_combination_key : goal.loop-entry-preserved-then-is_combination_key
loop-entry-preserved-then-is_combination_key c =
    let x = c.entry-item.result in
    let was = c.loop-entry.invariant in
    let row = row_by (member_of x) _ (ap is_combination_key (sym c.text.ensures) ∙ sym c.is_combination_key.ensures ∙ c.if-is_combination_key.true) in
    record {
      rows = rw (put_if_next member_of row_field [] c.as_slice-entry-items.result.now c.loop-entry.entry-index x c.loop-entry-test.true c.entry-item.is, row) was.rows;
      kept = was.kept;
    }

pub loop-entry-preserved : goal.loop-entry-preserved
loop-entry-preserved c =
    let x = c.entry-item.result in
    let was = c.loop-entry.invariant in
    let before = c.loop-entry.types in
    let now = c.items_type.new.types in
    let made = c.in_ok-ty.ensures in
    let row = row_by (member_of x) _ (ap is_combination_key (sym c.text.ensures) ∙ sym c.is_combination_key.ensures ∙ c.if-is_combination_key.false) in
    let more = c.in_ok-rows.ensures now _ _ (lists_stay now before c.loop-entry.rows _ made.kept was.rows) made.ty in
    record {
      rows = rw (put_if_next member_of row_field [] c.as_slice-entry-items.result.now c.loop-entry.entry-index x c.loop-entry-test.true c.entry-item.is, row)
          (rw (c.items.ensures, c.text-in-loop-entry.ensures) at more);
      kept = begins_trans (objects_of c.args.types.now) (objects_of before) (objects_of now) was.kept made.kept;
    }

pub returns : goal.returns
returns c =
    let items = c.as_slice-entry-items.result.now in
    let all = take_all c.loop-entry.entry-index items (omega (arith, c.loop-entry-test.false)) in
    record {
      ty = IfOk-weaker c.into_type.result _ _
          (λ ty means. rw (all, c.as_slice-entry-items.ensures.value, c.in_ok-entries.ensures) at (means _ c.loop-entry.invariant.rows))
          c.into_type.ensures.ty;
      kept = begins_ok c.into_type.result _ _ _ c.loop-entry.invariant.kept c.into_type.ensures.kept;
    }
