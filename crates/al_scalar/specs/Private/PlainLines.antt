-- What the reader of plain scalars returns, in terms of offsets.
use Rattle.std.specs.Prelude.{◌≡◌, ◌≢◌, ◌<◌, length, slice_index}
use Rattle.std.specs.Prelude.{ℕ, List, [], ◌∷◌, Bool, true, false, not, ◌&&◌, if◌then◌else◌, Result}
use Rattle.std.specs.Prelude.{Ok}
use Rattle.al_scalar.specs.Line.{Cell, Line, after_blanks, is_empty, is_all_blank}
use Rattle.al_scalar.specs.Taken.{Taken, feeds, folded_break}
use Rattle.al_scalar.specs.declared.faults.FaultAt.{FaultAt}
use Rattle.al_scalar.specs.Plain.{Context, flow, block, is_flow_indicator, plain_part, plain_lines}
use Rattle.al_scalar.specs.Places.{first_text, first_end, lines_at, text_at}
use Rattle.al_scalar.specs.LineEnds.{cells_between, later}
use Rattle.al_scalar.specs.declared.plain.PlainContext.{PlainContext}
use Rattle.al_scalar.specs.declared.plain.PlainContext.TheVariants as contexts

abbrev pub context_of : PlainContext → Context
context_of contexts.Flow = flow
context_of (contexts.Block within) = block within

-- a line that is all blanks, and isn't the last one
abbrev pub is_blank_line : Line → Bool
is_blank_line l = is_all_blank l.text && not l.last

abbrev pub begins_blank_line : List Line → Bool
begins_blank_line [] = false
begins_blank_line (l ∷ ls) = is_blank_line l

-- the lines from the first one that isn't blank
abbrev pub text_lines : List Line → List Line
text_lines [] = []
text_lines (l ∷ ls) =
    let more = text_lines ls in
    if is_blank_line l then more else (l ∷ ls)

-- the offsets of the blank lines' breaks before that line
abbrev pub empty_ends : List Line → List ℕ
empty_ends [] = []
empty_ends (l ∷ ls) =
    let more = empty_ends ls in
    if is_blank_line l then l.end ∷ more else []

-- the line feeds or the space that are still to be added for a break and the breaks of the empty
-- lines after it; the flag says that an empty line came before these
abbrev pub break_left : Bool → ℕ → List ℕ → List Cell
break_left true break ends = feeds ends
break_left false break ends = folded_break break ends

-- nothing more of the scalar, which ends at this offset
abbrev pub here_at : List ℕ → ℕ → Taken
here_at bytes end = record { text = []; end = end; left = lines_at bytes end }

-- the rest of a scalar after a part of it that ends at this offset
abbrev pub after_part : Context → List ℕ → ℕ → Result Taken FaultAt
after_part p bytes end =
    let ls = lines_at bytes end in
    let below = plain_lines p (here_at bytes end) (first_end ls) [] (later ls) in
    if is_empty (after_blanks (first_text ls)) then below else Ok (here_at bytes end)

-- the part of a line from offset `at` ends at `end`
abbrev pub PartTo : Context → Bool → List ℕ → ℕ → ℕ → Type 0
PartTo p after_blank bytes at end =
    plain_part p after_blank (text_at bytes at) ≡ (cells_between bytes at end, text_at bytes end)

-- the byte is no blank and no part of a break, and a scalar can't end before it
pub record IsWordByte (b : ℕ) : Type 0 where
  pub solid : 32 < b
  pub no_colon : b ≢ 58
  pub no_hash : b ≢ 35
  pub no_indicator : is_flow_indicator b ≡ false

abbrev pub IsWordAt : List ℕ → ℕ → Type 0
IsWordAt bytes at = (at < length bytes) × IsWordByte (slice_index bytes at)
