use Rattle.std.proofs.Common.{◌∙◌, ap, arith, get_or, length, map, sym}
use Rattle.std.proofs.lemmas.Bool.{and_parts}
use Rattle.std.proofs.lemmas.List.{get_or_default, take_all}
use Rattle.std.proofs.lemmas.Result.{IfOk-weaker}
use Rattle.al_types.specs.Types.{Optional, fuse_optional}
use Rattle.al_types.specs.Fused.{fuse_all}
use Rattle.al_expr_types.specs.Merging.{found_in}
use Rattle.al_expr_types.specs.Tables.{objects_of}
use Rattle.al_expr_types.specs.Types.{are_below, are_fields_below, is_extended_below, is_object_below, object_in, object_parts}
use Rattle.al_expr_types.proofs.Below.{number_at, object_wider}
use Rattle.al_expr_types.proofs.Fusing.{fused_push}
use Rattle.al_expr_types.proofs.Gathering.{next}
use Rattle.al_expr_types.proofs.Merges.{of_object}
use Rattle.al_expr_types.proofs.types.Types.+merging.Goals as goal

pub merge-requires : goal.merge-requires
merge-requires t c =
    let n = c.args.n in
    let all = ap (are_below n) (c.as_slice-m-items.ensures.value ∙ ap (λ v. v.items) c.deref.ensures) ∙ sym (ap (is_object_below n) c.in-Common.is) ∙ c.object.ensures.below in
    let lt = number_at n c.as_slice-m-items.result.now c.loop-m.m-index c.loop-m-test.true all in
    (omega (arith, lt, c.decreases), omega (arith, lt, c.requires))

pub loop-m-preserved : goal.loop-m-preserved
loop-m-preserved t c =
    let ns = c.as_slice-m-items.result.now in
    let i = c.loop-m.m-index in
    let m = get_or ns i 0 in
    let ms = objects_of c.args.self.now in
    record {
      found = λ name. next (λ ks. (fuse_all (map (object_in ms) ks)).0 name) (λ k. (object_in ms k).0 name) (λ ks k. ap (λ p. p.0 name) (fused_push (object_in ms) ks k)) ns i m
          (found_in ms c.args.so_far name) (found_in ms c.loop-m.all name) (found_in ms c.in_ok-all-in-Common.all name) c.loop-m-test.true
          (get_or_default ns i 0 m c.loop-m-test.true) (c.loop-m.invariant.found name) (ap (λ f. f name) c.in_ok-all-in-Common.ensures.found);
      below = λ h. c.in_ok-all-in-Common.ensures.below (c.loop-m.invariant.below h);
    }

pub returns-in-Fields-clause-found : goal.returns-in-Fields-clause-found
returns-in-Fields-clause-found t c =
    let ms = objects_of c.args.self.now in
    IfOk-weaker c.and_object-in-Fields.result _ _
    (λ m is. of_object ms (found_in ms c.args.so_far) _ _ c.object.result.now _ c.object.ensures.object c.in-Fields.is (is ms)) c.and_object-in-Fields.ensures.found

pub returns-in-Fields-clause-below : goal.returns-in-Fields-clause-below
returns-in-Fields-clause-below t c =
    let len = length c.args.self.now.objects.items in
    IfOk-weaker c.and_object-in-Fields.result _ _
    (λ m below. below len (object_wider c.args.n len c.object.result.now _ c.requires c.in-Fields.is c.object.ensures.below)) c.and_object-in-Fields.ensures.below

pub returns-in-Strings-clause-found : goal.returns-in-Strings-clause-found
returns-in-Strings-clause-found t c =
    let ms = objects_of c.args.self.now in
    IfOk-weaker c.and_strings.result _ _
    (λ m is. of_object ms (found_in ms c.args.so_far) _ _ c.object.result.now _ c.object.ensures.object c.in-Strings.is (is ms)) c.and_strings.ensures.found

pub returns-in-Strings-clause-below : goal.returns-in-Strings-clause-below
returns-in-Strings-clause-below t c =
    IfOk-weaker c.and_strings.result _ _ (λ m below. below (length c.args.self.now.objects.items)) c.and_strings.ensures.below

pub returns-after-loop-m-clause-found : goal.returns-after-loop-m-clause-found
returns-after-loop-m-clause-found t c = λ d name.
    let ms = objects_of c.args.self.now in
    let ns = c.as_slice-m-items.result.now in
    let start : Optional = found_in ms c.args.so_far name in
    let all = take_all c.loop-m.m-index ns (omega (arith, c.loop-m-test.false)) in
    (c.loop-m.invariant.found name
    ∙ ap (λ l. fuse_optional start ((fuse_all (map (object_in ms) l)).0 name)) (all ∙ c.as_slice-m-items.ensures.value ∙ ap (λ v. v.items) c.deref.ensures)
    ∙ ap (λ p. fuse_optional start (p.0 name)) (sym (c.object.ensures.object ∙ ap (object_parts ms) c.in-Common.is))) d

pub returns-in-Some-clause-found : goal.returns-in-Some-clause-found
returns-in-Some-clause-found t c =
    let ms = objects_of c.args.self.now in
    IfOk-weaker c.and_object.result _ _
    (λ m is. is ms ∙ ap (λ f name. fuse_optional (found_in ms c.args.so_far name) (f name)) c.in-Some.ensures.1.0) c.and_object.ensures.found

pub returns-in-Extension-clause-found : goal.returns-in-Extension-clause-found
returns-in-Extension-clause-found t c =
    let ms = objects_of c.args.self.now in
    IfOk-weaker c.and_object-in-Extension.result _ _
    (λ m is. of_object ms (found_in ms c.args.so_far) _ _ c.object.result.now _ c.object.ensures.object c.in-Extension.is (is ms)) c.and_object-in-Extension.ensures.found

pub returns-in-Extension-clause-below : goal.returns-in-Extension-clause-below
returns-in-Extension-clause-below t c =
    let len = length c.args.self.now.objects.items in
    let e = c.in-Extension.extension in
    let all = object_wider c.args.n len c.object.result.now _ c.requires c.in-Extension.is c.object.ensures.below in
    IfOk-weaker c.and_object-in-Extension.result _ _ (λ m below. below len (and_parts (are_fields_below len e.fields) (is_extended_below len e) all).0)
    c.and_object-in-Extension.ensures.below
