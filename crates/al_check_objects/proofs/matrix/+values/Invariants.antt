use Rattle.std.proofs.Common.{◌≡◌, drop, length, map, true}
use Rattle.al_base.specs.Growth.{BeginsWith}
use Rattle.al_types.specs.Puts.{firsts, put_all, put_new}
use Rattle.al_types.specs.Types.{Absent}
use Rattle.al_yaml_tree.specs.View.{entries_of, entry_view, nodes_of, view}
use Rattle.al_expr_types.specs.Joining.{is_join_below, join_in}
use Rattle.al_expr_types.specs.Tables.{objects_of}
use Rattle.al_check_objects.specs.Matrix.{fields_of, items_type}
use Rattle.al_expr_types.specs.FieldMaps.{fields_in, is_map_below}
use Rattle.al_check_objects.proofs.matrix.+values.Given as goal

abbrev pub invariant-items_type-loop-node : goal.invariant-items_type-loop-node
invariant-items_type-loop-node l = record {
  all : items_type (join_in (objects_of l.types) l.all) (nodes_of (map view (drop l.node-index l.nodes)))
      ≡ items_type Absent (nodes_of (map view l.nodes));
  below : is_join_below (length l.types.objects.items) l.all ≡ true;
  kept : BeginsWith (objects_of l.types) (objects_of l.fn.types);
}

abbrev pub invariant-entries_type-loop-entry : goal.invariant-entries_type-loop-entry
invariant-entries_type-loop-entry l = record {
  all : put_all put_new (fields_in (objects_of l.types) l.fields.map) (fields_of (entries_of (map entry_view (drop l.entry-index l.entries))))
      ≡ firsts (fields_of (entries_of (map entry_view l.entries)));
  known : is_map_below (length l.types.objects.items) l.fields.map ≡ true;
  kept : BeginsWith (objects_of l.types) (objects_of l.fn.types);
}
