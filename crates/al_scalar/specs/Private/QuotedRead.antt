-- What the reader of quoted scalars returns, in terms of offsets.
use Rattle.std.specs.Prelude.{◌≡◌, ◌⊎◌, ℕ, ◌+◌, ◌*◌, ◌∷◌, ◌<◌, ◌≤◌, List, [], ◌++◌}
use Rattle.std.specs.Prelude.{length, slice_index, Bool, Option, Some, None, Result, Ok, Err, take}
use Rattle.al_base.specs.Ascii.{ascii}
use Rattle.al_base.specs.declared.codes.YamlCode.TheVariants as yaml
use Rattle.al_scalar.specs.Line.{Cell, Line}
use Rattle.al_scalar.specs.Places.{lines_at, text_at}
use Rattle.al_scalar.specs.LineEnds.{later, cells_between, OnLine, IsBreakByte, IsLineEnd}
use Rattle.al_scalar.specs.Taken.{Taken, before}
use Rattle.al_scalar.specs.declared.faults.FaultAt.{FaultAt}
use Rattle.al_scalar.specs.Quoted.{QuotedLine, single_part, double_part, quoted_lines}
use Rattle.al_scalar.specs.Quoted.{quoted_scalar, character_cells, hex_digit}
use Rattle.al_scalar.specs.Private.Folding.{break_of}
use Rattle.al_scalar.specs.declared.quoted.Quotes.{Quotes}
use Rattle.al_scalar.specs.declared.quoted.Quotes.TheVariants.{Single, Double}
use Rattle.al_scalar.specs.declared.quoted.Mark.{Mark}
use Rattle.al_scalar.specs.declared.quoted.Mark.TheVariants as mark
use Rattle.al_scalar.specs.declared.quoted.Digits.{Digits}
use Rattle.al_scalar.specs.declared.quoted.Digits.TheVariants as digits

-- the part of a line in quotes, and a scalar after its opening quote

abbrev pub part_in : Quotes → List Cell → Result QuotedLine FaultAt
part_in Single = λ text. Ok (single_part text)
part_in Double = double_part

abbrev pub quoted_in : Quotes → ℕ → List Line → Result Taken FaultAt
quoted_in quotes quote ls = quoted_scalar (part_in quotes) quote ls

-- Reading from an offset gives these cells, and then what reading from the next offset gives.
abbrev pub ReadsOn : Quotes → List ℕ → ℕ → List Cell → ℕ → Type 0
ReadsOn quotes bytes at cells next = (quote : ℕ) → quoted_in quotes quote (lines_at bytes at)
    ≡ before cells (quoted_in quotes quote (lines_at bytes next))

abbrev pub IsMarkByte : Quotes → ℕ → Type 0
IsMarkByte Single b = b ≡ ascii "'"
IsMarkByte Double b = (b ≡ ascii "\"") ⊎ (b ≡ ascii "\\")

-- where a run of literal characters ends: at a quote, a backslash, a break or the file's end
abbrev pub EndsRun : Quotes → List ℕ → ℕ → Type 0
EndsRun quotes bytes at = at < length bytes
    → IsBreakByte (slice_index bytes at) ⊎ IsMarkByte quotes (slice_index bytes at)

-- the rest of the scalar after the break at an offset
abbrev pub read_after_break : Quotes → List ℕ → ℕ → Bool → ℕ → Result Taken FaultAt
read_after_break quotes bytes end escaped quote =
    quoted_lines (part_in quotes) quote (break_of escaped end) (later (lines_at bytes end))

abbrev pub GivesMark : Quotes → List ℕ → ℕ → Mark → Type 0
GivesMark quotes bytes at mark.Quote = (at < length bytes)
    × ((quote : ℕ) → quoted_in quotes quote (lines_at bytes at)
    ≡ Ok (record { text = []; end = at + 1; left = lines_at bytes (at + 1) }))
GivesMark quotes bytes at (mark.Character c next) =
    (at < next) × (next ≤ length bytes) × ReadsOn quotes bytes at (character_cells at c) next
GivesMark quotes bytes at (mark.Break end escaped) =
    (at ≤ end) × (end < length bytes) × IsLineEnd bytes end
    × ((quote : ℕ) → quoted_in quotes quote (lines_at bytes at)
    ≡ read_after_break quotes bytes end escaped quote)
GivesMark quotes bytes at mark.WrongEscape =
    (quote : ℕ) → quoted_in quotes quote (lines_at bytes at)
    ≡ Err (record { code = yaml.WrongEscape; at = at })
GivesMark quotes bytes at mark.FileEnd = (quote : ℕ) → quoted_in quotes quote (lines_at bytes at)
    ≡ Err (record { code = yaml.UnclosedQuote; at = quote })

-- the cells from an offset to a later one on the same line
abbrev pub Between : List ℕ → ℕ → ℕ → Type 0
Between bytes from to =
    OnLine bytes from to × (text_at bytes from ≡ cells_between bytes from to ++ text_at bytes to)

-- the value of hexadecimal digits that follow those of `value`
abbrev pub hex_value : ℕ → List Cell → Option ℕ
hex_value value [] = Some value
hex_value value (c ∷ cs) =
    elim (hex_digit c.0) [ None ↦ None | Some d ↦ hex_value (16 * value + d) cs ]

abbrev pub GivesDigits : List ℕ → ℕ → ℕ → Digits → Type 0
GivesDigits bytes from count (digits.Code code) = Between bytes from (from + count)
    × (hex_value 0 (cells_between bytes from (from + count)) ≡ Some code)
GivesDigits bytes from count digits.Wrong = hex_value 0 (take count (text_at bytes from)) ≡ None
GivesDigits bytes from count (digits.Short end) =
    Between bytes from end × IsLineEnd bytes end × (end < from + count)
    × ((value : ℕ) × (hex_value 0 (cells_between bytes from end) ≡ Some value))
