use Rattle.std.proofs.Common.{◌≡◌, map, take, length, true}
use Rattle.al_types.specs.Fused.{fuse_all}
use Rattle.al_expr_types.specs.Tables.{objects_of}
use Rattle.al_expr_types.specs.Types.{are_below, object_in}
use Rattle.al_expr_types.proofs.types.Types.flat.Given as goal

abbrev pub invariant-loop-n : goal.invariant-loop-n
invariant-loop-n l = record {
  objects : l.self.objects ≡ l.fn.self.objects;
  common : fuse_all (map (object_in (objects_of l.fn.self)) l.flat.items) ≡ fuse_all (map (object_in (objects_of l.fn.self)) (take l.n-index l.objects));
  below : are_below (length l.fn.self.objects.items) l.flat.items ≡ true;
}
