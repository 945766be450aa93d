use Rattle.std.proofs.Common.{◌≡◌, ℕ, map, take, true}
use Rattle.al_types.specs.Types.{Parts}
use Rattle.al_types.specs.Fused.{fuse_all, fuse_parts}
use Rattle.al_expr_types.specs.Types.{are_below}
use Rattle.al_expr_types.proofs.lists.Lists.and_all.Given as goal

abbrev pub invariant-loop-n : goal.invariant-loop-n
invariant-loop-n l = record {
  common : (f : ℕ → Parts) → fuse_all (map f l.all.items) ≡ fuse_parts (fuse_all (map f l.fn.list.items)) (fuse_all (map f (take l.n-index l.objects)));
  below : (k : ℕ) → are_below k l.fn.list.items ≡ true → are_below k l.objects ≡ true → are_below k l.all.items ≡ true;
}
