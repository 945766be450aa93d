use Rattle.std.proofs.Common.{◌<◌, ◌∙◌, [], ap, arith, false, get_or, length, map, refl, sym, true}
use Rattle.std.proofs.Math.ListN.{get_or-map}
use Rattle.std.proofs.lemmas.List.{get_or_default, length-map, take_all}
use Rattle.std.specs.Prelude.{zip}
use Rattle.al_base.specs.NamePlaces.{name_place}
use Rattle.al_types.specs.Types.{String, field_at, fuse_optional, optional}
use Rattle.al_expr_types.specs.Merging.{found_in, is_placed}
use Rattle.al_expr_types.proofs.Merges.{merged_next, merged_none, strings_zip}
use Rattle.al_expr_types.proofs.merging.FieldJoins.and_strings.Goals as goal

pub loop-i-init : goal.loop-i-init
loop-i-init c = record { found = λ ms n. merged_none c.args.names.now n (found_in ms c.args.self n); below = λ k g. g }

pub loop-i-preserved : goal.loop-i-preserved
loop-i-preserved c =
    let ns = c.args.names.now in
    let i = c.loop-i.i in
    let x = c.at.result.now in
    let lt : i < length ns = omega (arith, c.loop-i-test.true, c.len-i-end.ensures) in
    let first = sym c.if-not-is_first.false ∙ c.is_first.ensures ∙ ap (λ y. is_placed (name_place ns y) i) (get_or_default ns i [] x lt ∙ sym c.at.ensures) in
    record {
      found = λ ms. merged_next ns (map (λ n. String) ns) i x String String true (found_in ms c.args.self) (found_in ms c.loop-i.all)
          (found_in ms c.in_ok-all.all) (omega (arith, lt, length-map ns (λ n. String))) c.at.ensures (sym (get_or-map (λ n. String) ns i [])) first
          (c.loop-i.invariant.found ms) (c.in_ok-all.ensures.found ms);
      below = λ k g. c.in_ok-all.ensures.below k (c.loop-i.invariant.below k g) refl;
    }

pub loop-i-preserved-then-not-is_first : goal.loop-i-preserved-then-not-is_first
loop-i-preserved-then-not-is_first c =
    let ns = c.args.names.now in
    let i = c.loop-i.i in
    let x = get_or ns i [] in
    let lt : i < length ns = omega (arith, c.loop-i-test.true, c.len-i-end.ensures) in
    record {
      found = λ ms. merged_next ns (map (λ n. String) ns) i x String String false (found_in ms c.args.self) (found_in ms c.loop-i.all)
          (found_in ms c.loop-i.all) (omega (arith, lt, length-map ns (λ n. String))) (get_or_default ns i [] x lt) (sym (get_or-map (λ n. String) ns i []))
          (sym c.if-not-is_first.true ∙ c.is_first.ensures) (c.loop-i.invariant.found ms) refl;
      below = c.loop-i.invariant.below;
    }

pub returns-clause-found : goal.returns-clause-found
returns-clause-found c = λ ms d n.
    let ns = c.args.names.now in
    let all = take_all c.loop-i.i (map (λ k. String) ns) (omega (arith, c.loop-i-test.false, c.len-i-end.ensures, length-map ns (λ k. String))) in
    (c.loop-i.invariant.found ms n ∙ ap (λ vs. fuse_optional (found_in ms c.args.self n) (optional (field_at n (zip ns vs)))) all
    ∙ ap (λ fs. fuse_optional (found_in ms c.args.self n) (optional (field_at n fs))) (sym (strings_zip ns))) d
