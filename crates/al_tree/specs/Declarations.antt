-- The inputs, secrets and outputs that a file declares by name.
use Rattle.std.specs.Prelude.{ℕ, List, [], ◌∷◌, Bool, false, codes, is_some}
use Rattle.std.specs.List.{list_any}
use Rattle.std.specs.Option.{option_map_or}
use Rattle.std.specs.Str.{bytes_eq}
use Rattle.al_scalar.specs.Scalar.{Scalar, text_of}
use Rattle.al_base.specs.Names.{same_name}
use Rattle.al_yaml_tree.specs.Access.{scalar_in}
use Rattle.al_yaml_tree.specs.Node.{Node}
use Rattle.al_tree.specs.Values.{entries_in, firsts_by, items_at, value_at, value_below}

-- one of these texts is this name, ignoring ASCII case
abbrev pub named_among : List (List ℕ) → List ℕ → Bool
named_among ns n = list_any (λ m. same_name m n) ns

-- what a mapping declares: the first of the entries with equal names
abbrev pub declared_in : Node → List (Scalar × Node)
declared_in n = firsts_by named_among [] (entries_in n)

abbrev pub declared_below : List (List ℕ) → Node → List (Scalar × Node)
declared_below ks n = option_map_or declared_in (value_below ks n) []

abbrev pub has_value : List ℕ → Node → Bool
has_value k n = is_some (value_at k n)

-- a scalar under a path of keys has this text, null or not
abbrev pub says : List (List ℕ) → List ℕ → Node → Bool
says ks text n =
    option_map_or (λ v. option_map_or (λ s. bytes_eq (text_of s) text) (scalar_in v) false)
    (value_below ks n) false

abbrev pub is_composite : Node → Bool
is_composite = says (codes "runs" ∷ codes "using" ∷ []) (codes "composite")

-- the steps that an action runs
abbrev pub action_steps : Node → List Node
action_steps root = option_map_or (items_at (codes "steps")) (value_at (codes "runs") root) []
