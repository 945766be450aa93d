use Rattle.std.proofs.Common.{length, map}
use Rattle.std.specs.List.{list_all}
use Rattle.std.specs.Prelude.{zip}
use Rattle.al_expr_types.specs.Tables.{objects_of}
use Rattle.al_expr_types.specs.Types.{is_below, type_in}
use Rattle.al_check_objects.proofs.field_lists.FieldList.new.Goals as goal

pub returns : goal.returns
returns c = λ types. record {
  known = λ d. list_all (is_below (length types.objects.items)) (c.new-map.ensures.types d);
  are = λ d. zip (c.new-map.ensures.names d) (map (type_in (objects_of types)) (c.new-map.ensures.types d));
}
