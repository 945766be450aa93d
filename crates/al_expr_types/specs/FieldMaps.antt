-- The fields of a map, as names with their types.
use Rattle.std.specs.Prelude.{ℕ, List, Bool}
use Rattle.std.specs.List.{list_all}
use Rattle.al_types.specs.Puts.{TypedName}
use Rattle.al_types.specs.Types.{Parts}
use Rattle.al_expr_types.specs.Names.{names_in}
use Rattle.al_expr_types.specs.Types.{is_below, named_types}
use Rattle.al_expr_types.specs.declared.fields.FieldMap.{FieldMap}

abbrev pub fields_in : List Parts → FieldMap → List TypedName
fields_in ms m = named_types ms (names_in m.names) m.types.items

-- whether their types refer only to objects with numbers below n
abbrev pub is_map_below : ℕ → FieldMap → Bool
is_map_below n m = list_all (is_below n) m.types.items
