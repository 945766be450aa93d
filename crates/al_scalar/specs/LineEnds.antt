-- The lines from an offset, and where they end.
use Rattle.std.specs.Prelude.{◌≡◌, ◌⊎◌, ℕ, zero, suc, ◌-◌, ◌<◌, ◌≤◌, List, [], ◌∷◌, ◌++◌, length}
use Rattle.std.specs.Prelude.{slice_index, Option, Some}
use Rattle.std.specs.Prelude.{None, ◌+◌, Bool, true, false}
use Rattle.al_base.specs.Ascii.{ascii}
use Rattle.al_scalar.specs.Line.{Cell, Line, cut, is_all_blank}
use Rattle.al_scalar.specs.Places.{first_end, lines_at, text_at}

-- n bytes from an offset on, with their offsets
abbrev pub cells_at : List ℕ → ℕ → ℕ → List Cell
cells_at bytes i zero = []
cells_at bytes i (suc n) = (slice_index bytes i, i) ∷ cells_at bytes (suc i) n

-- the bytes from an offset up to another one
abbrev pub cells_between : List ℕ → ℕ → ℕ → List Cell
cells_between bytes i j = cells_at bytes i (j - i)

abbrev pub with_cells_before : List Cell → List Line → List Line
with_cells_before cs [] = []
with_cells_before cs (l ∷ ls) = cut (cs ++ l.text) l ls

abbrev pub first_last : List Line → Bool
first_last [] = true
first_last (l ∷ ls) = l.last

abbrev pub later : List Line → List Line
later [] = []
later (l ∷ ls) = ls

-- two lists of lines that begin in the same line
pub record SameLine (xs ys : List Line) : Type 0 where
  pub end : first_end xs ≡ first_end ys
  pub last : first_last xs ≡ first_last ys
  pub later : later xs ≡ later ys

-- an offset at or after another one in the same line
pub record OnLine (bytes : List ℕ) (at to : ℕ) : Type 0 where
  pub from : at ≤ to
  pub inside : to ≤ length bytes
  pub same : SameLine (lines_at bytes at) (lines_at bytes to)

-- a line with no text left, and with a break at an offset
abbrev pub broken_line : ℕ → Line
broken_line at = record { text = []; end = at; last = false }

-- blanks and breaks by their bytes

abbrev pub IsBlankByte : ℕ → Type 0
IsBlankByte b = (b ≡ ascii " ") ⊎ (b ≡ ascii "\t")

abbrev pub AreBlank : List Cell → Type 0
AreBlank [] = Unit {0}
AreBlank (c ∷ cs) = IsBlankByte c.0 × AreBlank cs

abbrev pub AreSpaces : List Cell → Type 0
AreSpaces [] = Unit {0}
AreSpaces (c ∷ cs) = (c.0 ≡ ascii " ") × AreSpaces cs

abbrev pub IsBreakByte : ℕ → Type 0
IsBreakByte b = (b ≡ ascii "\n") ⊎ (b ≡ ascii "\r")

-- the file's end, or a break
abbrev pub IsLineEnd : List ℕ → ℕ → Type 0
IsLineEnd bytes at = at < length bytes → IsBreakByte (slice_index bytes at)

abbrev pub IsBreakAt : List ℕ → ℕ → Type 0
IsBreakAt bytes at = (at < length bytes) × IsBreakByte (slice_index bytes at)

-- the end of a line, if only blanks are left of it
abbrev pub BlankTo : List ℕ → ℕ → Option ℕ → Type 0
BlankTo bytes at None = is_all_blank (text_at bytes at) ≡ false
BlankTo bytes at (Some end) =
    (is_all_blank (text_at bytes at) ≡ true) × IsLineEnd bytes end × OnLine bytes at end

-- the first byte of the rest of a line
abbrev pub FirstByte : List ℕ → ℕ → Option ℕ → Type 0
FirstByte bytes at None = text_at bytes at ≡ []
FirstByte bytes at (Some b) =
    (text_at bytes at ≡ (b, at) ∷ text_at bytes (at + 1)) × OnLine bytes at (at + 1)
