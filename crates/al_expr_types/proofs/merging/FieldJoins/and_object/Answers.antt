use Rattle.std.proofs.Common.{◌<◌, ◌∙◌, ap, arith, get_or, length, map, sym, take, true}
use Rattle.std.proofs.Math.ListN.{get_or-map}
use Rattle.std.proofs.lemmas.Bool.{and_parts}
use Rattle.std.proofs.lemmas.List.{length-map, length-take}
use Rattle.std.specs.List.{list_all}
use Rattle.al_expr_types.specs.Merging.{found_in}
use Rattle.al_expr_types.specs.Names.{names_in}
use Rattle.al_expr_types.specs.Types.{is_below, is_rest_below, type_in}
use Rattle.al_expr_types.specs.declared.ty.Ty.{Ty}
use Rattle.al_expr_types.specs.declared.ty.Base.TheVariants as base
use Rattle.al_expr_types.specs.declared.ty.Scalar.TheVariants as scalar
use Rattle.al_expr_types.proofs.Below.{all_at, all_taken}
use Rattle.al_expr_types.proofs.Merges.{merged_next, merged_none, placed_yes}
use Rattle.al_expr_types.proofs.OnceLemmas.{once_place}
use Rattle.al_expr_types.proofs.merging.FieldJoins.and_object.Goals as goal

pub loop-i-init : goal.loop-i-init
loop-i-init c = record { found = λ ms n. merged_none (names_in c.deref-map.result.now.names) n (found_in ms c.args.self n); below = λ k h g. g }

pub loop-i-preserved : goal.loop-i-preserved
loop-i-preserved c =
    let m = c.deref-map.result.now in
    let ts = take c.args.fields.now.count c.as_slice.result.now in
    let ns = names_in m.names in
    let i = c.loop-i.i in
    let any : Ty = record { arrays = 0; of = base.Scalar scalar.Any } in
    let x = c.at.result.now in
    let lt : i < length ts = c.loop-i-test.true in
    let inside : i < length ns = omega (arith, lt, length-take c.args.fields.now.count c.as_slice.result.now, ap length c.as_slice.ensures.value, m.even) in
    let first = placed_yes _ i (once_place ns i x m.names.once inside c.at.ensures) in
    record {
      found = λ ms. merged_next ns (map (type_in ms) ts) i x (type_in ms (get_or ts i any)) (type_in ms any) true (found_in ms c.args.self) (found_in ms c.loop-i.all)
          (found_in ms c.in_ok-all.all) (omega (arith, lt, length-map ts (type_in ms))) c.at.ensures (sym (get_or-map (type_in ms) ts i any)) (sym first)
          (c.loop-i.invariant.found ms) (c.in_ok-all.ensures.found ms);
      below = λ k h g. c.in_ok-all.ensures.below k (c.loop-i.invariant.below k h g) (all_at (is_below k) ts i any lt h);
    }

pub returns-clause-below : goal.returns-clause-below
returns-clause-below c = λ k h.
    let f = c.args.fields.now in
    let ts = f.map.value.types.items in
    let types = c.as_slice.ensures.value ∙ ap (λ m. m.types.items) c.deref-map.ensures in
    c.loop-i.invariant.below k (ap (λ xs. list_all (is_below k) (take f.count xs)) types
    ∙ all_taken (is_below k) f.count ts (and_parts (list_all (is_below k) ts) (is_rest_below k f.rest) h).0)
