-- Decoded bytes with their offsets, from the runs that a text keeps.
use Rattle.std.specs.Prelude.{◌≡◌, ℕ, suc, ◌^◌, ◌+◌, ◌-◌, ◌<◌, ◌≤◌, List, [], ◌∷◌, nat_le, Bool}
use Rattle.std.specs.Prelude.{true, if◌then◌else◌}
use Rattle.std.specs.List.{All, AllByRecursion}
use Rattle.std.specs.List.Sorted.{IsNonDecreasingBy}
use Rattle.al_scalar.specs.Line.{Cell}
use Rattle.al_scalar.specs.declared.texts.Segment.{Segment}

-- the first run of a text
abbrev pub first_run : ℕ → Segment
first_run at = record { index = 0; offset = at; moves = true }

-- the offset of the byte at index i, by one run; all bytes of an escape have the same offset
abbrev pub offset_in : Segment → ℕ → ℕ
offset_in s i = if s.moves then s.offset + (i - s.index) else s.offset

abbrev pub offset_after : ℕ → Segment → ℕ → ℕ
offset_after found s i = if nat_le s.index i then offset_in s i else found

-- by the last run that begins at or before the index
abbrev pub offset_from : ℕ → List Segment → ℕ → ℕ
offset_from found [] i = found
offset_from found (s ∷ ss) i = offset_from (offset_after found s i) ss i

abbrev pub offset_at : List Segment → ℕ → ℕ
offset_at ss i = offset_from 0 ss i

abbrev pub cells_from : ℕ → List ℕ → List Segment → List Cell
cells_from i [] ss = []
cells_from i (b ∷ bs) ss = (b, offset_at ss i) ∷ cells_from (suc i) bs ss

-- each run begins at index n or before it
abbrev pub AreUpTo : ℕ → List Segment → Type 0
AreUpTo n = All (λ (s : Segment). s.index ≤ n)

-- the runs are in ascending order of their indices
abbrev pub IsRising : List Segment → Type 0
IsRising = IsNonDecreasingBy (λ s. s.index)

-- the runs of a text of n bytes
abbrev pub IsOrdered : ℕ → List Segment → Type 0
IsOrdered n ss = AreUpTo n ss × IsRising ss

-- from an index on, the offsets of the bytes increase by one from `at`, or are all `at`
abbrev pub GoesOn : List Segment → ℕ → ℕ → Bool → Type 0
GoesOn ss index at moves = (k : ℕ) → offset_at ss (index + k) ≡ (if moves then at + k else at)

-- the cells of one run, from the k-th on
abbrev pub run_cells : ℕ → Bool → ℕ → List ℕ → List Cell
run_cells at moves k [] = []
run_cells at moves k (b ∷ bs) = (b, if moves then at + k else at) ∷ run_cells at moves (suc k) bs

-- each offset fits 32 bits
abbrev pub AreInRange : List Cell → Type 0
AreInRange = AllByRecursion (λ (c : Cell). c.1 < 2 ^ 32)
