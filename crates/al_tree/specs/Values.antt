-- The value under a key of a node. A value of the wrong kind counts as missing.
use Rattle.std.specs.Prelude.{ℕ, List, [], ◌∷◌, ◌++◌, Bool, not, Option, Some, find}
use Rattle.std.specs.Prelude.{option_and_then, option_map, if◌then◌else◌}
use Rattle.std.specs.Bool.{then_some}
use Rattle.std.specs.List.{filter_map}
use Rattle.std.specs.Option.{option_map_or, option_to_list}
use Rattle.al_scalar.specs.Scalar.{Scalar}
use Rattle.al_yaml_tree.specs.Access.{mapping_in, scalar_in, sequence_in}
use Rattle.al_yaml_tree.specs.Node.{Node}
use Rattle.al_yaml_tree.specs.View.{view}
use Rattle.al_tree.specs.Faults.{is_key, is_null, value_in}
use Rattle.al_tree.specs.Keys.{key_of}
use Rattle.al_base.specs.Names.{among}
use Rattle.al_tree.specs.declared.values.Member.{Member}

-- the entries whose key no earlier entry has, after entries with the keys seen
abbrev pub firsts_by : (List (List ℕ) → List ℕ → Bool) → List (List ℕ) → List (Scalar × Node)
    → List (Scalar × Node)
firsts_by is_in seen [] = []
firsts_by is_in seen (e ∷ es) =
    (if is_in seen (key_of e) then [] else e ∷ []) ++ firsts_by is_in (seen ++ key_of e ∷ []) es

-- the entries of a mapping, the first of those with equal keys; otherwise none
abbrev pub entries_in : Node → List (Scalar × Node)
entries_in n = option_map_or (firsts_by among []) (mapping_in n) []

-- the items of a sequence; otherwise none
abbrev pub items_in : Node → List Node
items_in n = option_map_or (λ ns. ns) (sequence_in n) []

-- the first occurrence of a key
abbrev pub key_at : List ℕ → Node → Option Scalar
key_at k n = option_and_then (λ es. option_map (λ e. e.0) (find (is_key k) es)) (mapping_in n)

-- the value of the first entry with a key
abbrev pub value_at : List ℕ → Node → Option Node
value_at k n = option_and_then (value_in k) (mapping_in n)

-- the value below a path of keys
abbrev pub value_below : List (List ℕ) → Node → Option Node
value_below [] n = Some n
value_below (k ∷ ks) n = option_and_then (value_below ks) (value_at k n)

-- a scalar that isn't null
abbrev pub text_in : Node → Option Scalar
text_in n = option_and_then (λ s. then_some (not (is_null s)) s) (scalar_in n)

abbrev pub text_at_key : List ℕ → Node → Option Scalar
text_at_key k n = option_and_then text_in (value_at k n)

abbrev pub text_below : List (List ℕ) → Node → Option Scalar
text_below ks n = option_and_then text_in (value_below ks n)

-- the texts of a scalar or a sequence of scalars
abbrev pub texts_in : Node → List Scalar
texts_in n = option_map_or (filter_map text_in) (sequence_in n) (option_to_list (text_in n))

-- the entries, the items and the texts under a key
abbrev pub entries_at : List ℕ → Node → List (Scalar × Node)
entries_at k n = option_map_or entries_in (value_at k n) []

abbrev pub items_at : List ℕ → Node → List Node
items_at k n = option_map_or items_in (value_at k n) []

abbrev pub texts_at : List ℕ → Node → List Scalar
texts_at k n = option_map_or texts_in (value_at k n) []

-- the meaning of the program's view of an entry
abbrev pub member_of : Member → Scalar × Node
member_of m = (m.key.now, view m.value.now)
