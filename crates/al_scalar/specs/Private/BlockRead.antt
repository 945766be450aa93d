-- What the reader of block scalars returns, in terms of offsets.
use Rattle.std.specs.Prelude.{◌≡◌, ℕ, List, [], ◌∷◌, ◌++◌, length, Bool, Option, Some}
use Rattle.std.specs.Prelude.{None, Result, Ok, Err, cond, nat_le, if◌then◌else◌}
use Rattle.al_base.specs.Ascii.{ascii}
use Rattle.al_scalar.specs.Line.{Cell, Line, is_all_blank, indent}
use Rattle.al_scalar.specs.Taken.{Taken, with_text}
use Rattle.al_scalar.specs.declared.faults.FaultAt.{FaultAt}
use Rattle.al_base.specs.declared.codes.YamlCode.TheVariants.{WrongBlockHeader}
use Rattle.al_scalar.specs.Places.{lines_at, text_at}
use Rattle.al_scalar.specs.LineEnds.{cells_between, OnLine}
use Rattle.al_scalar.specs.Block as block
use Rattle.al_scalar.specs.Block.{BlockLine, last_end}
use Rattle.al_scalar.specs.declared.header.Chomping.{Chomping}
use Rattle.al_scalar.specs.declared.header.Header.{Header}
use Rattle.al_scalar.specs.declared.block.LastLine.{LastLine}
use Rattle.al_scalar.specs.declared.block.RowStart.{RowStart}
use Rattle.al_scalar.specs.declared.block.BlockStyle.{BlockStyle}
use Rattle.al_scalar.specs.declared.block.RowState.{RowState}

-- a row with only what the next row depends on: whether it begins with a blank, and its break
abbrev pub row_like : Bool → List ℕ → BlockLine
row_like spaced break = record { text = cond spaced ((ascii " ", 0) ∷ []) []; break = break }

abbrev pub last_row : Option LastLine → Option BlockLine
last_row None = None
last_row (Some l) = Some (row_like l.spaced (l.at ∷ []))

-- the header's indicators were read; what follows them is still to be checked
pub record Indicates (bytes : List ℕ) (at : ℕ) (asked : Result Header FaultAt) (h : Header) :
    Type 0 where
  pub given : asked ≡ block.header_end h (text_at bytes h.end)
  pub on_line : OnLine bytes at h.end

-- whether a header may end at an offset: None if it may, otherwise the offset of the text that
-- isn't allowed there
abbrev pub EndsHeader : List ℕ → ℕ → Option ℕ → Type 0
EndsHeader bytes at None = (h : Header) → block.header_end h (text_at bytes at) ≡ Ok h
EndsHeader bytes at (Some place) = (h : Header) → block.header_end h (text_at bytes at)
    ≡ Err (record { code = WrongBlockHeader; at = place })

-- the row of the line from `at` is its text from `s.from`, on the same line
pub record RowAt (bytes : List ℕ) (at : ℕ) (asked : Option (List Cell)) (s : RowStart) :
    Type 0 where
  pub row : asked ≡ Some (text_at bytes s.from)
  pub blank : is_all_blank (text_at bytes at) ≡ s.is_blank
  pub on_line : OnLine bytes at s.from

abbrev pub RowTo : List ℕ → ℕ → Option (List Cell) → Option RowStart → Type 0
RowTo bytes at asked None = asked ≡ None
RowTo bytes at asked (Some s) = RowAt bytes at asked s

abbrev pub RowStarts : List ℕ → ℕ → Option ℕ → Bool → Option RowStart → Type 0
RowStarts bytes at m found r = RowTo bytes at (block.row_of m found (text_at bytes at)) r

-- the content indent, from the first line that isn't all blanks
abbrev pub indent_from : ℕ → List Cell → Option ℕ
indent_from within text = if nat_le within (indent text) then Some (indent text) else None

-- The scalar from a row on: `found` is as in `rows_at`, `last` and `empties` as in `text_after`,
-- `end` as in `rows_end`.
abbrev pub rest : Bool → Chomping → Option ℕ → Bool → Option BlockLine → List ℕ → ℕ
    → List Line → Taken
rest is_literal k m found last empties end ls =
    let rs = block.rows_at m found ls in
    record {
      text = block.text_after is_literal k last empties rs.rows;
      end = block.rows_end end rs.rows;
      left = rs.left;
    }

-- the scalar after some rows: their text, and then the rest
abbrev pub rest_of : BlockStyle → Bool → RowState → List Line → Taken
rest_of style found state ls =
    with_text state.text
    (rest style.literal style.chomping style.indent found
    (last_row state.pending.last) state.pending.empties.items state.end ls)

-- After one row is read, the text so far and the rows after it give the same text as before with
-- that row.
abbrev pub AddsRow : Bool → RowState → List Cell → List ℕ → RowState → Type 0
AddsRow is_literal was text break is =
    (k : Chomping) (rs : List BlockLine) →
    was.text ++ block.text_after is_literal k (last_row was.pending.last) was.pending.empties.items
    (record { text = text; break = break } ∷ rs)
    ≡ is.text
    ++ block.text_after is_literal k (last_row is.pending.last) is.pending.empties.items rs

abbrev pub EndsRow : RowState → List Cell → RowState → Type 0
EndsRow was text is = last_end text was.end ≡ is.end

-- the row of the file's last line, from an offset
abbrev pub last_line : List ℕ → ℕ → List BlockLine
last_line bytes from = record { text = cells_between bytes from (length bytes); break = [] } ∷ []

-- the rows from offset `at` are read: `is` has all text, and the remaining lines begin at `next`
abbrev pub ReadsRows : List ℕ → BlockStyle → ℕ → RowState → RowState → ℕ → Type 0
ReadsRows bytes style at was is next =
    rest_of style style.explicit was (lines_at bytes at)
    ≡ record { text = is.text; end = is.end; left = lines_at bytes next }
