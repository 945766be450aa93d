use Rattle.std.proofs.Common.{◌≡◌, ℕ, List, map, take, length, true}
use Rattle.al_types.specs.Types.{fuse_optional}
use Rattle.al_types.specs.Fused.{fuse_all}
use Rattle.al_expr_types.specs.Merging.{are_joins_below, found_in}
use Rattle.al_expr_types.specs.Tables.{objects_of}
use Rattle.al_expr_types.specs.Types.{object_in}
use Rattle.al_expr_types.proofs.types.Types.+merging.Given as goal

abbrev pub decreases-merge : goal.decreases-merge
decreases-merge l = l.n

abbrev pub invariant-loop-m : goal.invariant-loop-m
invariant-loop-m l = record {
  found : (name : List ℕ) → found_in (objects_of l.self) l.all name ≡ fuse_optional (found_in (objects_of l.self) l.fn.so_far name)
      ((fuse_all (map (object_in (objects_of l.self)) (take l.m-index l.m-items))).0 name);
  below : are_joins_below (length l.self.objects.items) l.fn.so_far ≡ true → are_joins_below (length l.self.objects.items) l.all ≡ true;
}
