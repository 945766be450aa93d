-- Prefixes of the fields of a map.
use Rattle.std.specs.Prelude.{◌≡◌, ◌<◌, ◌≤◌, ℕ, List, length, take, Option, MatchOption}
use Rattle.al_types.specs.Types.{Absent, Parts, parts_with}
use Rattle.al_expr_types.specs.Names.{names_in}
use Rattle.al_expr_types.specs.Tables.{objects_of}
use Rattle.al_expr_types.specs.Types.{named_types, object_in}
use Rattle.al_expr_types.specs.declared.fields.FieldMap.{FieldMap}
use Rattle.al_expr_types.specs.declared.objects.Prefix.{Prefix}
use Rattle.al_expr_types.specs.declared.prefixes.Prefixes.{Prefixes}
use Rattle.al_expr_types.specs.declared.types.Types.{Types}

-- the fields whose prefixes are needed
abbrev pub map_in : Prefixes → FieldMap
map_in p = p.map.value

-- an object with this many first fields, and no others
abbrev pub prefix_parts : List Parts → FieldMap → ℕ → Parts
prefix_parts ms m k = parts_with (named_types ms (names_in m.names) (take k m.types.items)) Absent

-- a prefix, if there is one, is an object with this many first fields
abbrev pub HasPrefix : Types → FieldMap → Option Prefix → Type 0
HasPrefix types m o =
    let ms = objects_of types in
    MatchOption o (Unit {0}) (λ p. (p.object < length types.objects.items)
    × (object_in ms p.object ≡ prefix_parts ms m p.count))

-- and these are at most this many
abbrev pub IsShorter : Option Prefix → ℕ → Type 0
IsShorter o k = MatchOption o (Unit {0}) (λ p. p.count ≤ k)
