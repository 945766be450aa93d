-- The positions of names, by an index.
use Rattle.std.specs.Prelude.{◌≡◌, ℕ, List, Option, Some, None, if◌then◌else◌}
use Rattle.std.specs.BTreeMap.{get_by}
use Rattle.std.specs.Option.{option_or}
use Rattle.al_base.specs.Names.{lower_case, same_name}
use Rattle.al_base.specs.NamePlaces.{name_place}
use Rattle.al_base.specs.SortedTexts.{key_cmp, sort_key}
use Rattle.al_expr_types.specs.declared.name_index.NameIndex.{NameIndex}

-- the first position of a name, by an index
unfoldable pub place_in : NameIndex → List ℕ → Option ℕ
place_in index name =
    get_by (λ k. key_cmp (sort_key (lower_case name)) (k.0, k.1.items)) index.positions

-- an index of the first position of each name in a list
abbrev pub IsNameIndex : NameIndex → List (List ℕ) → Type 0
IsNameIndex index ns = place_in index ≡ name_place ns

-- positions with one more name, which counts if there was no equal name
abbrev pub and_place : (List ℕ → Option ℕ) → List ℕ → ℕ → List ℕ → Option ℕ
and_place place more i name = option_or (place name) (if same_name more name then Some i else None)

abbrev pub place_by : Option NameIndex → List (List ℕ) → List ℕ → Option ℕ
place_by None ns = name_place ns
place_by (Some index) ns = place_in index
