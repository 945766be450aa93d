-- The keys of a mapping's entries, and of its first entries.
use Rattle.std.specs.Prelude.{◌≡◌, ◌<◌, ℕ, List, [], length, map, slice_index_or, take, Bool, false}
use Rattle.std.specs.Prelude.{nat_lt, not, Option}
use Rattle.std.specs.Option.{option_map_or}
use Rattle.al_base.specs.NamePlaces.{is_first_text, text_position}
use Rattle.al_scalar.specs.Scalar.{Scalar, text_of}
use Rattle.al_yaml_tree.specs.Node.{Node}
use Rattle.al_yaml_tree.specs.View.{entry_view}
use Rattle.al_yaml_tree.specs.declared.node.Entry.{Entry}
use Rattle.al_base.specs.Names.{among}
use Rattle.al_tree.specs.declared.keys.KeyIndex.{KeyIndex}
use Rattle.al_tree.specs.declared.keys.KeySet.{KeySet}

-- the text of an entry's key
abbrev pub key_of : Scalar × Node → List ℕ
key_of e = text_of e.0

abbrev pub keys_in : List (Scalar × Node) → List (List ℕ)
keys_in es = map key_of es

-- a position before another
abbrev pub is_before : ℕ → Option ℕ → Bool
is_before n place = option_map_or (λ i. nat_lt i n) place false

-- which keys the first entries have
unfoldable pub has_first : KeyIndex → ℕ → List ℕ → Bool
has_first x n k =
    option_map_or (λ p. is_before n (text_position p k)) x.positions
    (among (keys_in (map entry_view (take n x.entries.now))) k)

-- whether the entry at a position, which has this key, repeats an earlier one by the index
unfoldable pub repeats : KeyIndex → ℕ → List ℕ → Bool
repeats x i k = option_map_or (λ p. not (is_first_text p i)) x.positions (has_first x i k)

-- an index of the keys of these entries
abbrev pub IsIndexOf : KeyIndex → List Entry → Type 0
IsIndexOf x es =
    let ks = keys_in (map entry_view es) in
    (x.entries.now ≡ es) × (has_first x ≡ λ n. among (keys_in (map entry_view (take n es))))
    × ((i : ℕ) → i < length es → repeats x i (slice_index_or ks i [])
    ≡ has_first x i (slice_index_or ks i []))

-- which keys a set holds
abbrev pub holds : KeySet → List ℕ → Bool
holds s = has_first s.index.now s.count
