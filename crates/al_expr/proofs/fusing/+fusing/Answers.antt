use Rattle.std.proofs.Common.{◌≡◌, ◌∷◌, ◌++◌, [], List, ◌∙◌, ap, get_or, map, refl, sym, take, Some, None}
use Rattle.std.proofs.lemmas.List.{get_or_default, map-append, map-set}
use Rattle.std.specs.Prelude.{is_none}
use Rattle.std.proofs.Math.ListN.{get_or-map}
use Rattle.al_base.proofs.NamePlaces.{found_within}
use Rattle.al_types.specs.FusedFields.{are_distinct}
use Rattle.al_types.specs.Indexes.{name_at, named_as}
use Rattle.al_types.specs.Puts.{TypedName}
use Rattle.al_types.specs.Fused.{fuse_parts}
use Rattle.al_types.specs.Types.{Absent, Parts, fuse_type, object_type, parts_with}
use Rattle.al_types.proofs.Puts.{put_after, put_new_after, put_over}
use Rattle.al_expr.specs.Listings.{parts_in}
use Rattle.al_expr.specs.Trees.{field_of, listed_parts, rest_of, ty_of}
use Rattle.al_expr_types.proofs.Scans.{mapped_more}
use Rattle.al_expr.proofs.Added.{added_first, added_later, added_none, parts_put, put_distinct, whole, with_rest}
use Rattle.al_expr.proofs.Firsts.{none_if}
use Rattle.al_expr.proofs.TreeViews.{object_view}
use Rattle.al_expr.proofs.fusing.+fusing.Goals.{add_fields-then-is_none+in_ok-all, add_fields-else-is_none}
use Rattle.al_expr.proofs.fusing.+fusing.Goals as goal

pub add_fields-loop-i-init : goal.add_fields-loop-i-init
add_fields-loop-i-init t c = added_none (parts_in c.args.so_far)

pub add_fields-loop-i-preserved : goal.add_fields-loop-i-preserved
add_fields-loop-i-preserved t c =
    let x = c.index-fields-i.result in
    let p = field_of x in
    let start : Parts = parts_in c.args.so_far in
    let old : Parts = parts_in c.loop-i.all in
    let ts : List TypedName = map field_of (take c.loop-i.i c.args.fields.now) in
    let more = ap (λ us. fuse_parts start (listed_parts us Absent)) (sym (mapped_more field_of c.args.fields.now c.loop-i.i x c.loop-i-test.true c.index-fields-i.is)) in
    elim c.if-is_none.branch [
      | add_fields-then-is_none+in_ok-all w ↦ ap parts_in w.all-is
          ∙ added_first ts p start old (parts_in w.in_ok-all.all) (none_if _ _ _ _ c.position.ensures.place c.is_none.ensures w.if-is_none.true) c.loop-i.invariant w.in_ok-all.ensures
          ∙ more
      | add_fields-else-is_none w ↦ ap parts_in w.all-is
          ∙ added_later ts p start old (none_if _ _ _ _ c.position.ensures.place c.is_none.ensures w.if-is_none.false) c.loop-i.invariant ∙ more
    ]

pub add_rest-returns : goal.add_rest-returns
add_rest-returns t c =
    let ts : List TypedName = map field_of c.args.so_far.fields.items in
    ap (parts_with ts) c.in_ok-rest.ensures
    ∙ with_rest (parts_in c.args.so_far) ts (rest_of c.args.so_far.rest) (rest_of c.args.rest.now) refl

pub add_field-invariant_of-result : goal.add_field-invariant_of-result
add_field-invariant_of-result t c = record {
  distinct = ap are_distinct c.in_ok-fields.ensures ∙ put_distinct (map field_of c.args.so_far.fields.items) (field_of c.args.field.now) c.args.so_far.distinct;
}

pub add_field-returns : goal.add_field-returns
add_field-returns t c =
    let rest = rest_of c.args.so_far.rest in
    ap (λ us. parts_with us rest) c.in_ok-fields.ensures ∙ parts_put (map field_of c.args.so_far.fields.items) (field_of c.args.field.now) rest

pub put_or_fuse-returns-in_ok-ty-in-Some : goal.put_or_fuse-returns-in_ok-ty-in-Some
put_or_fuse-returns-in_ok-ty-in-Some t c =
    let items = c.args.fields.items in
    let i = c.in-Some.i in
    let ts : List TypedName = map field_of items in
    let p = field_of c.args.field.now in
    let r = c.index_mut.result.now in
    let place = c.position.ensures.place ∙ ap (λ fs. name_at (map field_of fs) p.0) c.as_slice.ensures.value in
    let at : name_at ts p.0 ≡ Some i = sym place ∙ c.in-Some.is in
    let few = found_within field_of (named_as p.0) items i at in
    let was = c.index.ensures ∙ get_or_default items i c.index.result.now r few ∙ sym c.index_mut.ensures.value in
    let got : get_or ts i (field_of r) ≡ field_of r = get_or-map field_of items i r ∙ ap field_of (sym c.index_mut.ensures.value) in
    let ty = c.in_ok-ty-in-Some.ensures ∙ ap (λ f. fuse_type (field_of f).1 p.1) was in
    map-set field_of items i _ ∙ put_over ts p (field_of (record r { ty = c.in_ok-ty-in-Some.ty })) (field_of r) i at got refl ty

pub put_or_fuse-returns-in_ok-push-in-None : goal.put_or_fuse-returns-in_ok-push-in-None
put_or_fuse-returns-in_ok-push-in-None t c =
    let items = c.args.fields.items in
    let ts : List TypedName = map field_of items in
    let p = field_of c.args.field.now in
    let place = c.position.ensures.place ∙ ap (λ fs. name_at (map field_of fs) p.0) c.as_slice.ensures.value in
    let new : name_at ts p.0 ≡ None = sym place ∙ c.in-None.is in
    ap (map field_of) c.in_ok-push-in-None.ensures.items ∙ map-append field_of items (c.in_ok-copy_field-in-None.field-0 ∷ [])
    ∙ ap (λ q. ts ++ q ∷ []) c.in_ok-copy_field-in-None.ensures ∙ sym (put_after ts p new ∙ put_new_after ts p (ap is_none new))

pub fuse_more-returns-in_ok-add_rest-in-Object-Object : goal.fuse_more-returns-in_ok-add_rest-in-Object-Object
fuse_more-returns-in_ok-add_rest-in-Object-Object t c =
    let rest = rest_of c.in-Object-Object.rest in
    let p : Parts = listed_parts (map field_of c.in-Object-Object.fields.items) rest in
    let us : List TypedName = map field_of c.in-Object-Object.others.items in
    let first = c.in_ok-first-in-Object-Object.ensures ∙ ap (λ xs. listed_parts (map field_of xs) rest) c.deref-in-Object-Object.ensures.value in
    let more = c.in_ok-both-in-Object-Object.ensures
    ∙ (λ d. fuse_parts (first d) (listed_parts (map field_of (c.deref-in-Object-Object-2.ensures.value d)) Absent)) in
    let all = whole p (parts_in c.in_ok-both-in-Object-Object.both) (parts_in c.in_ok-add_rest-in-Object-Object.field-0) us (rest_of c.in-Object-Object.other)
    more c.in_ok-add_rest-in-Object-Object.ensures in
    let here = ap ty_of c.in-Object-Object.is-0 ∙ object_view c.in-Object-Object.fields c.in-Object-Object.rest in
    let there = ap ty_of c.in-Object-Object.is-1 ∙ object_view c.in-Object-Object.others c.in-Object-Object.other in
    c.into_type.ensures ∙ ap object_type all ∙ sym (λ d. fuse_type (here d) (there d))
