use Rattle.std.proofs.Common.{◌≡◌, length, map, take, true}
use Rattle.al_base.specs.Growth.{BeginsWith}
use Rattle.al_types.specs.Puts.{firsts}
use Rattle.al_expr_types.specs.FieldMaps.{fields_in, is_map_below}
use Rattle.al_expr_types.specs.Tables.{objects_of}
use Rattle.al_expr.specs.Trees.{field_of}
use Rattle.al_expr.proofs.adding.+adding.Given as goal

abbrev pub invariant-add_fields-loop-field : goal.invariant-add_fields-loop-field
invariant-add_fields-loop-field l = record {
  kept : BeginsWith (objects_of l.types) (objects_of l.fn.types);
  known : is_map_below (length l.types.objects.items) l.map ≡ true;
  fields : fields_in (objects_of l.types) l.map ≡ firsts (map field_of (take l.field-index l.fields));
}
