use Rattle.std.proofs.Common.{◌≡◌, ◌∙◌, ap, length, map, sym, take}
use Rattle.std.proofs.lemmas.Result.{IfOk-weaker}
use Rattle.al_base.proofs.Growing.{begins_trans}
use Rattle.al_types.specs.Puts.{firsts, put_new}
use Rattle.al_types.specs.Types.{object_type, parts_with}
use Rattle.al_expr_types.specs.FieldMaps.{fields_in}
use Rattle.al_expr_types.specs.Tables.{objects_of}
use Rattle.al_expr_types.proofs.FieldMaps.{fields_stay}
use Rattle.al_expr_types.proofs.PrefixLemmas.{types_wider}
use Rattle.al_expr.specs.Trees.{field_of, ty_of}
use Rattle.al_expr_types.proofs.Scans.{mapped_more}
use Rattle.al_expr.proofs.Firsts.{firsts_more}
use Rattle.al_expr.proofs.TreeViews.{object_view}
use Rattle.al_expr.proofs.adding.+adding.Goals as goal

pub add-fields-requires-clause-fields : goal.add-fields-requires-clause-fields
add-fields-requires-clause-fields t c =
    types_wider c.add_rest.new.types.objects.items c.add_fields.new.types.objects.items c.in_ok-map-in-Object.map c.in_ok-others-in-Object.ensures.kept
    c.in_ok-map-in-Object.ensures.known

pub add-returns-in_ok-others-in-Object-clause-ty : goal.add-returns-in_ok-others-in-Object-clause-ty
add-returns-in_ok-others-in-Object-clause-ty t c =
    let fields : fields_in (objects_of c.add_rest.new.types) c.in_ok-map-in-Object.map ≡ firsts (map field_of c.in-Object.fields.items) =
    fields_stay c.add_rest.new.types c.add_fields.new.types c.in_ok-map-in-Object.map c.in_ok-others-in-Object.ensures.kept c.in_ok-map-in-Object.ensures.known
    ∙ c.in_ok-map-in-Object.ensures.fields ∙ ap (λ xs. firsts (map field_of xs)) c.deref-in-Object.ensures.value in
    IfOk-weaker c.fields.result _ _
    (λ all is. is ∙ (λ d. object_type (parts_with (fields d) (c.in_ok-others-in-Object.ensures.ty d)))
    ∙ sym (ap ty_of c.in-Object.is ∙ object_view c.in-Object.fields c.in-Object.rest))
    c.fields.ensures.ty

pub add_fields-loop-field-preserved : goal.add_fields-loop-field-preserved
add_fields-loop-field-preserved t c =
    let fs = c.args.fields.now in
    let i = c.loop-field.field-index in
    let now = c.loop-field.types in
    let next = c.add.new.types in
    let m = c.loop-field.map in
    let x = c.field-item.result in
    let kept = c.in_ok-ty.ensures.kept in
    let sofar = fields_stay next now m kept c.loop-field.invariant.known ∙ c.loop-field.invariant.fields in
    record {
      kept = begins_trans _ _ _ c.loop-field.invariant.kept kept;
      known = c.in_ok-map.ensures.below (length next.objects.items)
          (types_wider next.objects.items now.objects.items m kept c.loop-field.invariant.known) c.in_ok-ty.ensures.known;
      fields = c.in_ok-map.ensures.fields (objects_of next)
          ∙ (λ d. put_new (sofar d) (c.as_bytes.ensures.value d, c.in_ok-ty.ensures.ty d))
          ∙ sym (ap firsts (mapped_more field_of fs i x c.loop-field-test.true c.field-item.is) ∙ firsts_more (map field_of (take i fs)) (field_of x));
    }
