-- Where texts and names first occur in a list.
use Rattle.std.specs.Prelude.{◌≡◌, ◌<◌, ℕ, ◌+◌, List, [], ◌∷◌, Bool, Option, Some, None, length}
use Rattle.std.specs.Prelude.{nat_eq, option_map, slice_index_or}
use Rattle.std.specs.Prelude.{if◌then◌else◌}
use Rattle.std.specs.Option.{option_eq}
use Rattle.std.specs.Str.{bytes_eq}
use Rattle.al_base.specs.Names.{lower_case, same_name}
use Rattle.al_base.specs.SortedTexts.{is_own, position_among}
use Rattle.al_base.specs.declared.name_positions.NamePositions.{NamePositions}
use Rattle.al_base.specs.declared.name_positions.TextPositions.{TextPositions}

-- the position of the first element that passes a test
abbrev pub first_at : {A : Type 0} → (A → Bool) → List A → Option ℕ
first_at test [] = None
first_at test (x ∷ xs) = if test x then Some 0 else option_map (λ i. i + 1) (first_at test xs)

-- the first position of a name in a list
abbrev pub name_place : List (List ℕ) → List ℕ → Option ℕ
name_place ns n = first_at (λ m. same_name m n) ns

-- the first position of a text in a list
abbrev pub text_place : List (List ℕ) → List ℕ → Option ℕ
text_place ts t = first_at (λ u. bytes_eq u t) ts

-- the first position of a text
unfoldable pub text_position : TextPositions → List ℕ → Option ℕ
text_position p = position_among (λ t. t.now) p.entries.items

-- the first position of a name
unfoldable pub name_position : NamePositions → List ℕ → Option ℕ
name_position p name = position_among (λ n. n.items) p.entries.items (lower_case name)

-- whether the text at a position has no equal before it
unfoldable pub is_first_text : TextPositions → ℕ → Bool
is_first_text p = is_own p.places.items

-- whether the name at a position has no equal before it
unfoldable pub is_first_name : NamePositions → ℕ → Bool
is_first_name p = is_own p.places.items

-- first is true of a position of the list exactly if place finds the text there at this position
abbrev pub TellsFirsts : (List ℕ → Option ℕ) → List (List ℕ) → (ℕ → Bool) → Type 0
TellsFirsts place ts first =
    (i : ℕ) → i < length ts → first i ≡ option_eq nat_eq (place (slice_index_or ts i [])) (Some i)
