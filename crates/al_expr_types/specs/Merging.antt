-- Merging objects, name by name.
use Rattle.std.specs.Prelude.{ℕ, List, get_or, Bool, false, nat_eq, Option, Some, None}
use Rattle.std.specs.Prelude.{if◌then◌else◌}
use Rattle.std.specs.List.{list_all}
use Rattle.al_base.specs.Names.{same_name}
use Rattle.al_base.specs.NamePlaces.{name_place}
use Rattle.al_types.specs.Types.{Optional, Parts, fuse_optional}
use Rattle.al_expr_types.specs.Joining.{is_join_below, join_in}
use Rattle.al_expr_types.specs.Names.{names_in}
use Rattle.al_expr_types.specs.declared.joining.Join.{Join}
use Rattle.al_expr_types.specs.declared.joining.Join.TheVariants as join
use Rattle.al_expr_types.specs.declared.merging.FieldJoins.{FieldJoins}

-- the content of a slot; nothing if there is no slot
abbrev pub slot : List Join → Option ℕ → Join
slot js None = join.Nothing
slot js (Some i) = get_or js i join.Nothing

abbrev pub slot_in : List Parts → List Join → Option ℕ → Optional
slot_in ms js o = join_in ms (slot js o)

abbrev pub found_in : List Parts → FieldJoins → List ℕ → Optional
found_in ms m n = slot_in ms m.joins.items (name_place (names_in m.names) n)

abbrev pub are_joins_below : ℕ → FieldJoins → Bool
are_joins_below k m = list_all (is_join_below k) m.joins.items

-- with one more type of a name
abbrev pub and_named : (List ℕ → Optional) → List ℕ → Optional → List ℕ → Optional
and_named at name more n = if same_name name n then fuse_optional (at n) more else at n

-- whether a name's position is this one
abbrev pub is_placed : Option ℕ → ℕ → Bool
is_placed None i = false
is_placed (Some k) i = nat_eq k i
