use Rattle.std.proofs.Common.{◌<◌, ◌∷◌, ◌++◌, [], ℕ, ◌∙◌, ap, arith, get_or, length, map, sym, take}
use Rattle.std.proofs.Math.ListN.{get_or-map}
use Rattle.std.proofs.lemmas.List.{get_or_default, get_or-take, length-map, length-take, map-append, take_all, take_more}
use Rattle.std.proofs.lemmas.Slice.Zip.{get_or-zip, length-zip}
use Rattle.std.specs.Prelude.{zip}
use Rattle.al_types.specs.FusedFields.{are_distinct}
use Rattle.al_types.specs.Puts.{TypedName}
use Rattle.al_types.specs.Fused.{fuse_parts, fuse_all}
use Rattle.al_types.specs.Types.{Parts, parts_with}
use Rattle.al_types.proofs.FuseLaws.{fused_one_more}
use Rattle.al_expr_types.specs.Names.{names_in}
use Rattle.al_expr_types.specs.Tables.{objects_of}
use Rattle.al_expr_types.specs.Types.{object_in, type_in}
use Rattle.al_expr_types.proofs.OnceLemmas.{once_distinct}
use Rattle.al_expr.specs.Trees.{field_of, listed_parts, rest_of}
use Rattle.al_expr_types.proofs.Scans.{mapped_more}
use Rattle.al_expr.proofs.Firsts.{firsts_same}
use Rattle.al_expr.proofs.taking.+taking.Goals as goal

pub fields_listing-loop-i-preserved : goal.fields_listing-loop-i-preserved
fields_listing-loop-i-preserved t c =
    let f = c.args.fields.now in
    let m = f.map.value in
    let g = type_in (objects_of c.args.types.now) in
    let ns = names_in m.names in
    let ts = take f.count m.types.items in
    let i = c.loop-i.i in
    let n = c.at.result.0.now in
    let ty = c.at.result.1 in
    let one : TypedName = (n, g ty) in
    let few = length-take f.count m.types.items in
    let within : i < length (map g ts) = omega (arith, c.loop-i-test.true, f.inside, few, length-map ts g) in
    let named : i < length ns = omega (arith, c.loop-i-test.true, f.inside, m.even) in
    let lt : i < length (zip ns (map g ts)) = omega (arith, within, named, length-zip ns (map g ts)) in
    let name = c.at.ensures.name ∙ ap (λ k. get_or (names_in k.names) i n) c.deref.ensures in
    let typed = c.at.ensures.ty ∙ ap (λ k. get_or k.types.items i ty) c.deref.ensures ∙ sym (get_or-take f.count m.types.items i ty c.loop-i-test.true) in
    let is = get_or-zip ns (map g ts) i one named within ∙ (λ d. (sym name d, (get_or-map g ts i ty ∙ sym (ap g typed)) d)) in
    ap (map field_of) c.in_ok-push.ensures.items ∙ map-append field_of c.loop-i.trees.items (c.in_ok-field_with.field-0 ∷ [])
    ∙ (λ d. c.loop-i.invariant d ++ (c.in_ok-field_with.ensures ∙ ap (λ u. (n, u)) c.in_ok-tree.ensures) d ∷ [])
    ∙ sym (take_more (zip ns (map g ts)) i one lt ∙ ap (λ p. take i (zip ns (map g ts)) ++ p ∷ []) is)

pub fields_listing-invariant_of-result : goal.fields_listing-invariant_of-result
fields_listing-invariant_of-result t c =
    let f = c.args.fields.now in
    let ns = names_in f.map.value.names in
    let ts = take f.count f.map.value.types.items in
    let us = map (type_in (objects_of c.args.types.now)) ts in
    let long = length-map ts (type_in (objects_of c.args.types.now)) in
    let all = c.loop-i.invariant ∙ take_all c.loop-i.i (zip ns us) (omega (arith, c.loop-i-test.false, length-zip ns us, long, length-take f.count f.map.value.types.items)) in
    record { distinct = ap are_distinct all ∙ once_distinct ns us f.map.value.names.once }

pub fields_listing-returns : goal.fields_listing-returns
fields_listing-returns t c =
    let f = c.args.fields.now in
    let ns = names_in f.map.value.names in
    let ts = take f.count f.map.value.types.items in
    let us = map (type_in (objects_of c.args.types.now)) ts in
    let long = length-map ts (type_in (objects_of c.args.types.now)) in
    let all = c.loop-i.invariant ∙ take_all c.loop-i.i (zip ns us) (omega (arith, c.loop-i-test.false, length-zip ns us, long, length-take f.count f.map.value.types.items)) in
    λ d. parts_with (all d) (c.in_ok-rest.ensures d)

pub object_listing-loop-m-preserved : goal.object_listing-loop-m-preserved
object_listing-loop-m-preserved t c =
    let f : ℕ → Parts = object_in (objects_of c.args.types.now) in
    let ns = c.as_slice-m-items.result.now in
    let i = c.loop-m.m-index in
    let m = get_or ns i 0 in
    let one = c.in_ok-one-in-Common.one in
    let rest = rest_of one.rest in
    let same = ap (λ xs. listed_parts (map field_of xs) rest) c.as_slice.ensures.value
    ∙ ap (λ us. parts_with us rest) (firsts_same (map field_of one.fields.items) one.distinct) ∙ c.in_ok-one-in-Common.ensures in
    c.in_ok-all-in-Common.ensures ∙ (λ d. fuse_parts (c.loop-m.invariant d) (same d))
    ∙ sym (ap fuse_all (mapped_more f ns i m c.loop-m-test.true (get_or_default ns i 0 m c.loop-m-test.true)) ∙ fused_one_more (map f (take i ns)) (f m))
