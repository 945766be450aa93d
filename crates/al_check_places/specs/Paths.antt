-- Paths of keys, as tables have them.
use Prim.Native.String.{String}
use Rattle.std.specs.Prelude.{ℕ, List, [], ◌∷◌, Bool, true, false, ◌&&◌, Option, Some, None, codes}
use Rattle.std.specs.Prelude.{map, nat_eq, if◌then◌else◌}
use Rattle.std.specs.List.{slice_split}
use Rattle.std.specs.Option.{option_map_or}
use Rattle.std.specs.Str.{bytes_eq}
use Rattle.al_check_places.specs.declared.table.Key.{Key}
use Rattle.al_check_places.specs.declared.table.Key.TheVariants.{Named, Id}

-- keys, where None is any key
abbrev pub Path : Type 0
Path = List (Option (List ℕ))

-- a path as it is written: a `.` between its keys, and `*` for any key
abbrev pub path : String → Path
path text =
    map (λ k. if bytes_eq k (codes "*") then None else Some k)
    (slice_split (nat_eq 46) (codes text))

-- whether the path is a prefix of the keys
abbrev pub is_path_prefix : Path → List (List ℕ) → Bool
is_path_prefix [] ks = true
is_path_prefix (p ∷ ps) [] = false
is_path_prefix (p ∷ ps) (k ∷ ks) =
    option_map_or (λ name. bytes_eq name k) p true && is_path_prefix ps ks

-- the meaning of the program's keys
abbrev pub key_view : Key → Option (List ℕ)
key_view Id = None
key_view (Named k) = Some k.now
