use Rattle.std.proofs.Common.{get_or, map}
use Rattle.std.proofs.lemmas.List.{get_or_default}
use Rattle.std.specs.Prelude.{nat_lt}
use Rattle.al_types.specs.Fused.{fuse_all}
use Rattle.al_expr_types.proofs.Below.{all_at}
use Rattle.al_expr_types.proofs.ObjectLists.{all_next}
use Rattle.al_expr_types.proofs.lists.Lists.and_all.Goals as goal

pub loop-n-preserved : goal.loop-n-preserved
loop-n-preserved c =
    let ns = c.args.objects.now in
    let i = c.loop-n.n-index in
    let n = get_or ns i 0 in
    record {
      common = λ f. all_next f (fuse_all (map f c.args.list.items)) (fuse_all (map f c.loop-n.all.items)) (fuse_all (map f c.in_ok-all.all.items)) ns i n
          c.loop-n-test.true (get_or_default ns i 0 n c.loop-n-test.true) (c.loop-n.invariant.common f) (c.in_ok-all.ensures.common f);
      below = λ k h all. c.in_ok-all.ensures.below k (c.loop-n.invariant.below k h all) (all_at (λ m. nat_lt m k) ns i 0 c.loop-n-test.true all);
    }
