use Rattle.std.proofs.Common.{◌≡◌, ◌∙◌, get_or, length, map, subst, true}
use Rattle.std.proofs.lemmas.List.{get_or_default}
use Rattle.al_types.specs.Fused.{fuse_all, fuse_parts}
use Rattle.al_expr_types.specs.Types.{are_below, object_in, parts_of_all}
use Rattle.al_expr_types.proofs.ObjectLists.{some_next}
use Rattle.al_expr_types.proofs.types.Types.flat.Goals as goal

pub loop-n-preserved : goal.loop-n-preserved
loop-n-preserved c =
    let ns = c.args.objects.now in
    let i = c.loop-n.n-index in
    let n = get_or ns i 0 in
    let f = object_in (parts_of_all c.args.self.now.objects.items) in
    let old = c.loop-n.flat.items in
    let new = c.in_ok-flat.flat.items in
    let same = c.loop-n.invariant.objects in
    let step =
    subst (λ os. fuse_all (map (object_in (parts_of_all os.items)) new)
    ≡ fuse_parts (fuse_all (map (object_in (parts_of_all os.items)) old)) (object_in (parts_of_all os.items) n)) same c.in_ok-flat.ensures.common in
    record {
      objects = c.and_flat.ensures.objects ∙ same;
      common = some_next f (fuse_all (map f old)) (fuse_all (map f new)) ns i n c.loop-n-test.true (get_or_default ns i 0 n c.loop-n-test.true)
          c.loop-n.invariant.common step;
      below = subst (λ os. are_below (length os.items) old ≡ true → are_below (length os.items) new ≡ true) same c.in_ok-flat.ensures.below c.loop-n.invariant.below;
    }
