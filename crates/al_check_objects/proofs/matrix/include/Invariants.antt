use Rattle.std.proofs.Common.{◌≡◌, List, length, map, take, true}
use Rattle.al_base.specs.Growth.{BeginsWith}
use Rattle.al_types.specs.Puts.{TypedName}
use Rattle.al_types.specs.Types.{Present}
use Rattle.al_yaml_tree.specs.View.{view}
use Rattle.al_expr_types.specs.Joining.{is_join_below, join_in}
use Rattle.al_expr_types.specs.Tables.{objects_of}
use Rattle.al_check_objects.specs.Matrix.{include_all}
use Rattle.al_check_objects.specs.Objects.{strictly}
use Rattle.al_check_objects.specs.Numbers.{Means}
use Rattle.al_check_objects.proofs.matrix.include.Given as goal

abbrev pub invariant-loop-node : goal.invariant-loop-node
invariant-loop-node l = record {
  all : (ts : List TypedName) → Means l.fn.types l.fn.rows (strictly ts) →
      join_in (objects_of l.types) l.all ≡ Present (strictly (include_all ts (map view (take l.node-index l.nodes))));
  below : is_join_below (length l.types.objects.items) l.all ≡ true;
  kept : BeginsWith (objects_of l.types) (objects_of l.fn.types);
}
