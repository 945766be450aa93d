-- The lines from an offset of a file.
use Rattle.std.specs.Prelude.{ℕ, List, [], ◌∷◌, drop}
use Rattle.al_scalar.specs.Line.{Cell, Line, lines}

-- the lines from an offset on
abbrev pub lines_at : List ℕ → ℕ → List Line
lines_at bytes at = lines at (drop at bytes)

-- the rest of the first line
abbrev pub first_text : List Line → List Cell
first_text [] = []
first_text (l ∷ ls) = l.text

abbrev pub first_end : List Line → ℕ
first_end [] = 0
first_end (l ∷ ls) = l.end

-- the rest of the line at an offset
abbrev pub text_at : List ℕ → ℕ → List Cell
text_at bytes at = first_text (lines_at bytes at)
