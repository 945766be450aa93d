-- The nodes that a search has seen.
use Rattle.std.specs.Prelude.{◌≡◌, ℕ, List, Bool, true, false, slice_index_or}

abbrev pub Marked : List Bool → ℕ → Type 0
Marked marks k = slice_index_or marks k false ≡ true

-- counts the nodes without a mark
abbrev pub unmarked_one : Bool → ℕ
unmarked_one true = 0
unmarked_one false = 1
