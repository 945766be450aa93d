use Rattle.std.proofs.Common.{◌≡◌, ◌+◌, ◌*◌, map, take, length, true}
use Rattle.al_types.specs.Types.{fuse_optional}
use Rattle.al_types.specs.Fused.{fuse_all}
use Rattle.al_expr_types.specs.Joining.{is_join_below, join_in}
use Rattle.al_expr_types.specs.Parts.{part_in}
use Rattle.al_expr_types.specs.Tables.{objects_of}
use Rattle.al_expr_types.specs.Types.{object_in}
use Rattle.al_expr_types.proofs.types.Types.+gathering.Given as goal

abbrev pub decreases-gather : goal.decreases-gather
decreases-gather l = 2 * l.n

abbrev pub decreases-gather_extension : goal.decreases-gather_extension
decreases-gather_extension l = 2 * l.extension.now.base.object + 1

abbrev pub invariant-gather-loop-m : goal.invariant-gather-loop-m
invariant-gather-loop-m l = record {
  part : join_in (objects_of l.self) l.all ≡ fuse_optional (join_in (objects_of l.self) l.fn.so_far)
      (part_in l.part (fuse_all (map (object_in (objects_of l.self)) (take l.m-index l.m-items))));
  below : is_join_below (length l.self.objects.items) l.fn.so_far ≡ true → is_join_below (length l.self.objects.items) l.all ≡ true;
}
