use Rattle.std.proofs.Common.{◌∙◌, ap, arith, get_or, length, map, sym}
use Rattle.std.proofs.lemmas.List.{get_or_default, take_all}
use Rattle.std.proofs.lemmas.Result.{IfOk-weaker}
use Rattle.al_types.specs.Types.{fuse_optional}
use Rattle.al_types.specs.Fused.{fuse_all}
use Rattle.al_expr_types.specs.Joining.{join_in}
use Rattle.al_expr_types.specs.Parts.{part_in}
use Rattle.al_expr_types.specs.Tables.{objects_of}
use Rattle.al_expr_types.specs.Types.{common_of, are_below, extension_parts, is_object_below, object_in, type_in}
use Rattle.al_expr_types.proofs.Below.{base_below, number_at, object_wider}
use Rattle.al_expr_types.proofs.Gathering.{fields_then_rest, gathered_none, next, of_object, parts_more}
use Rattle.al_expr_types.proofs.types.Types.+gathering.Goals as goal

pub gather-loop-m-init : goal.gather-loop-m-init
gather-loop-m-init t c = record {
  part = gathered_none c.args.part (join_in (objects_of c.args.self.now) c.args.so_far);
  below = λ h. h;
}

pub gather-gather-requires-in-loop-m : goal.gather-gather-requires-in-loop-m
gather-gather-requires-in-loop-m t c =
    let n = c.args.n in
    let all = ap (are_below n) (c.as_slice-m-items.ensures.value ∙ ap (λ v. v.items) c.deref.ensures) ∙ sym (ap (is_object_below n) c.in-Common.is) ∙ c.object.ensures.below in
    let lt = number_at n c.as_slice-m-items.result.now c.loop-m.m-index c.loop-m-test.true all in
    (omega (arith, lt, c.decreases), omega (arith, lt, c.requires))

pub gather-loop-m-preserved : goal.gather-loop-m-preserved
gather-loop-m-preserved t c =
    let ns = c.as_slice-m-items.result.now in
    let i = c.loop-m.m-index in
    let m = get_or ns i 0 in
    let ms = objects_of c.args.self.now in
    record {
      part = next (λ ks. part_in c.args.part (fuse_all (map (object_in ms) ks))) (λ k. part_in c.args.part (object_in ms k))
          (parts_more c.args.part (object_in ms)) ns i m (join_in ms c.args.so_far) (join_in ms c.loop-m.all) (join_in ms c.in_ok-all-in-Common.all)
          c.loop-m-test.true (get_or_default ns i 0 m c.loop-m-test.true) c.loop-m.invariant.part c.in_ok-all-in-Common.ensures.part;
      below = λ h. c.in_ok-all-in-Common.ensures.below (c.loop-m.invariant.below h);
    }

pub gather-returns-in-Fields-clause-below : goal.gather-returns-in-Fields-clause-below
gather-returns-in-Fields-clause-below t c =
    let len = length c.args.self.now.objects.items in
    IfOk-weaker c.gather-in-Fields.result _ _
    (λ j below. below len (object_wider c.args.n len c.object.result.now _ c.requires c.in-Fields.is c.object.ensures.below)) c.gather-in-Fields.ensures.below

pub gather-returns-after-loop-m-clause-part : goal.gather-returns-after-loop-m-clause-part
gather-returns-after-loop-m-clause-part t c =
    let ms = objects_of c.args.self.now in
    let ns = c.as_slice-m-items.result.now in
    let start = join_in ms c.args.so_far in
    let all = take_all c.loop-m.m-index ns (omega (arith, c.loop-m-test.false)) in
    of_object ms c.args.part start _ _ c.object.result.now _ c.object.ensures.object c.in-Common.is
    (c.loop-m.invariant.part ∙ ap (λ l. fuse_optional start (part_in c.args.part (fuse_all (map (object_in ms) l)))) (all ∙ c.as_slice-m-items.ensures.value ∙ ap (λ v. v.items) c.deref.ensures))

pub gather-gather_extension-requires : goal.gather-gather_extension-requires
gather-gather_extension-requires t c =
    let os = c.args.self.now.objects.items in
    let n = c.args.n in
    let lt = base_below n c.in-Extension.extension (sym (ap (is_object_below n) c.in-Extension.is) ∙ c.object.ensures.below) in
    (omega (arith, lt, c.decreases), object_wider n (length os) c.object.result.now _ c.requires c.in-Extension.is c.object.ensures.below)

pub gather_extension-gather-requires : goal.gather_extension-gather-requires
gather_extension-gather-requires t c = (omega (arith, c.decreases), base_below (length c.args.self.now.objects.items) c.args.extension.now c.requires)

pub gather_extension-returns-in_ok-of_base-in-All-clause-part : goal.gather_extension-returns-in_ok-of_base-in-All-clause-part
gather_extension-returns-in_ok-of_base-in-All-clause-part t c =
    let e = c.args.extension.now in
    let ms = objects_of c.args.self.now in
    let start = join_in ms c.args.so_far in
    let of_base = join_in ms c.in_ok-of_base-in-All.of_base in
    let own = common_of (map (type_in ms) e.own.items) in
    let base = c.in_ok-of_base-in-All.ensures.part ∙ ap (λ p. fuse_optional start (part_in p (object_in ms e.base.object))) c.in-All.is in
    let all = ap (λ ts. fuse_optional of_base (common_of (map (type_in ms) ts))) c.as_slice.ensures.value in
    IfOk-weaker c.and_all.result _ _
    (λ j is. fields_then_rest start of_base (join_in ms j) (object_in ms e.base.object).2 own base (is ms ∙ all)
    ∙ ap (λ p. fuse_optional start (part_in p (extension_parts ms e))) (sym c.in-All.is))
    c.and_all.ensures.part
