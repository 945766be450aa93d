use Rattle.std.proofs.Common.{[], map, take}
use Rattle.std.specs.List.{filter_map}
use Rattle.al_base.specs.Growth.{BeginsWith}
use Rattle.al_tree.specs.Values.{member_of}
use Rattle.al_types.specs.Puts.{put_all, put_new}
use Rattle.al_expr_types.specs.Tables.{objects_of}
use Rattle.al_check_objects.specs.Matrix.{row_field}
use Rattle.al_check_objects.specs.Numbers.{Lists}
use Rattle.al_check_objects.proofs.matrix.rows_type.Given as goal

abbrev pub invariant-loop-entry : goal.invariant-loop-entry
invariant-loop-entry l = record {
  rows : Lists l.types l.rows (put_all put_new [] (filter_map row_field (map member_of (take l.entry-index l.entry-items))));
  kept : BeginsWith (objects_of l.types) (objects_of l.fn.types);
}
