-- The parts of a text, and the pieces between separators.
use Rattle.std.specs.Prelude.{ℕ, List, [], ◌∷◌, Bool, false, ◌==◌, ◌||◌, nat_eq}
use Rattle.std.specs.List.{slice_split, starts_with}

-- a text contains a part
abbrev pub has_part : List ℕ → List ℕ → Bool
has_part part [] = false
has_part part (b ∷ bs) = starts_with nat_eq (b ∷ bs) part || has_part part bs

-- the pieces between separators
abbrev pub pieces : ℕ → List ℕ → List (List ℕ)
pieces separator bs = slice_split (λ b. b == separator) bs
