-- Block scalars (8.1).
use Rattle.std.specs.Prelude.{ℕ, ◌+◌, ◌-◌, List, [], ◌∷◌, ◌++◌, drop, Bool, true, not, ◌&&◌, ◌||◌}
use Rattle.std.specs.Prelude.{◌==◌, nat_le, if◌then◌else◌}
use Rattle.std.specs.Prelude.{Option, Some, None, is_none, is_some, unwrap_or, Result, Ok}
use Rattle.std.specs.Int.{is_in_range}
use Rattle.std.specs.Option.{option_map_or}
use Rattle.al_base.specs.Ascii.{ascii, is_sign}
use Rattle.al_base.specs.Digits.{digit_of}
use Rattle.al_base.specs.declared.codes.YamlCode.TheVariants as yaml
use Rattle.al_scalar.specs.Line.{Cell, Line, place, after_blanks, indent, is_empty, is_all_blank}
use Rattle.al_scalar.specs.Line.{begins_blank, is_comment}
use Rattle.al_scalar.specs.Taken.{Taken, ◌>>=◌, fault, feeds, folded_break}
use Rattle.al_scalar.specs.declared.faults.FaultAt.{FaultAt}
use Rattle.al_scalar.specs.declared.header.Chomping.{Chomping}
use Rattle.al_scalar.specs.declared.header.Chomping.TheVariants.{Strip, Clip, Keep}
use Rattle.al_scalar.specs.declared.header.Header.{Header}

-- a digit of an indentation indicator: not 0
abbrev pub is_digit : ℕ → Bool
is_digit b = is_in_range (ascii "1") (ascii "9") b

abbrev pub chomping_of : ℕ → Chomping
chomping_of b = if b == ascii "+" then Keep else Strip

-- After the indicators there are only blanks and, after a blank, a comment.
abbrev pub header_end : Header → List Cell → Result Header FaultAt
header_end h cs =
    if is_empty (after_blanks cs) || (begins_blank cs && is_comment cs) then Ok h
    else fault yaml.WrongBlockHeader (place (after_blanks cs) 0)

-- The header after the indicators read so far, which end at this offset: a digit and a sign, each
-- at most once and in either order.
abbrev pub header : Option ℕ → Option Chomping → ℕ → List Cell → Result Header FaultAt
header digit sign at [] =
    header_end (record { digit = digit; chomping = unwrap_or sign Clip; end = at }) []
header digit sign at (c ∷ cs) =
    if is_none digit && is_digit c.0 then header (Some (digit_of c.0)) sign (at + 1) cs
    else (if is_none sign && is_sign c.0 then header digit (Some (chomping_of c.0)) (at + 1) cs
    else header_end (record { digit = digit; chomping = unwrap_or sign Clip; end = at }) (c ∷ cs))

-- The content indent (8.1.1.1): what the digit says, or the indent of the first line that isn't all
-- blanks, if it is at least within; None if there is no content.
abbrev pub found_indent : ℕ → List Line → Option ℕ
found_indent within [] = None
found_indent within (l ∷ ls) =
    let below = found_indent within ls in
    if is_all_blank l.text then below
    else (if nat_le within (indent l.text) then Some (indent l.text) else None)

abbrev pub content_indent : Option ℕ → ℕ → List Line → Option ℕ
content_indent (Some d) within ls = Some (d + (within - 1))
content_indent None within ls = found_indent within ls

-- A line of the scalar: its text after the indent, and its break.
pub record BlockLine : Type 0 where
  pub text : List Cell
  pub break : List ℕ

-- The text of a line after the indent, or None if the line ends the scalar. found says that the
-- digit or an earlier line set the indent.
abbrev pub row_of : Option ℕ → Bool → List Cell → Option (List Cell)
row_of None found text = if is_all_blank text then Some [] else None
row_of (Some m) found text =
    if is_all_blank text && not found then Some []
    else (if nat_le m (indent text) then Some (drop m text)
    else (if is_all_blank text then Some [] else None))

-- The rows, and the lines left. After the file's last line only the file's end is left.
pub record Rows : Type 0 where
  pub rows : List BlockLine
  pub left : List Line

abbrev pub with_row : BlockLine → Rows → Rows
with_row r more = record { rows = r ∷ more.rows; left = more.left }

abbrev pub at_end : Line → List Line
at_end l = record { text = []; end = l.end; last = true } ∷ []

abbrev pub rows_at : Option ℕ → Bool → List Line → Rows
rows_at m found [] = record { rows = []; left = [] }
rows_at m found (l ∷ ls) =
    let below = rows_at m (found || not (is_all_blank l.text)) ls in
    elim (row_of m found l.text) [
      | None ↦ record { rows = []; left = l ∷ ls }
      | Some text ↦ (if l.last then record {
        rows = record { text = text; break = [] }
            ∷ [];
        left = at_end l;
      }
          else with_row (record { text = text; break = l.end ∷ [] }) below)
    ]

-- The breaks that are kept at the end (8.1.1.2): that of the last line with text, and those of the
-- empty lines after it.
abbrev pub final_breaks : Chomping → List ℕ → List ℕ → List Cell
final_breaks Strip own empties = []
final_breaks Clip own empties = feeds own
final_breaks Keep own empties = feeds (own ++ empties)

abbrev pub own_break : Option BlockLine → List ℕ
own_break last = option_map_or (λ r. r.break) last []

-- The break between two lines that don't begin with a blank is folded (8.1.3).
abbrev pub between_rows : List ℕ → List ℕ → List Cell
between_rows [] empties = feeds empties
between_rows (at ∷ ats) empties = folded_break at empties

-- The text of the breaks between the last line with text, if there is one, and the next one: all of
-- them are kept in literal style (8.1.2), next to a line that begins with a blank, and before the
-- first line with text.
abbrev pub joint : Bool → Option BlockLine → List ℕ → BlockLine → List Cell
joint is_literal None empties next = feeds empties
joint is_literal (Some r) empties next =
    if is_literal || begins_blank r.text || begins_blank next.text then feeds (r.break ++ empties)
    else between_rows r.break empties

-- The text of the rows after the last line with text; empties are the breaks of the empty lines
-- since then.
abbrev pub text_after : Bool → Chomping → Option BlockLine → List ℕ → List BlockLine → List Cell
text_after is_literal k last empties [] = final_breaks k (own_break last) empties
text_after is_literal k last empties (r ∷ rs) =
    let with_empty = text_after is_literal k last (empties ++ r.break) rs in
    let below = text_after is_literal k (Some r) [] rs in
    if is_empty r.text then with_empty else joint is_literal last empties r ++ r.text ++ below

abbrev pub last_end : List Cell → ℕ → ℕ
last_end [] at = at
last_end (c ∷ cs) at = last_end cs (c.1 + 1)

-- the end of the last text that isn't empty
abbrev pub rows_end : ℕ → List BlockLine → ℕ
rows_end at [] = at
rows_end at (r ∷ rs) = rows_end (last_end r.text at) rs

-- a block scalar, whose indicator begins the first line
abbrev pub block_scalar : Bool → ℕ → List Line → Result Taken FaultAt
block_scalar is_literal within [] = fault yaml.UnexpectedCharacter 0
block_scalar is_literal within (l ∷ ls) =
    header None None (place l.text l.end + 1) (drop 1 l.text) >>= (λ h.
    let m = content_indent h.digit within ls in
    let rs =
    (if l.last then record { rows = []; left = at_end l } else
    rows_at m (is_some h.digit) ls) in
    Ok (record {
      text = text_after is_literal h.chomping None [] rs.rows;
      end = rows_end h.end rs.rows;
      left = rs.left;
    }))
