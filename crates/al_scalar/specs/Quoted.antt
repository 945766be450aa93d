-- Quoted scalars (7.3.1 double-quoted, 7.3.2 single-quoted, 5.7 escaped characters, 6.5 line
-- folding).
use Rattle.std.specs.Bool.{then_some}
use Rattle.std.specs.Prelude.{ℕ, zero, suc, ◌+◌, ◌*◌, ◌-◌, List, [], ◌∷◌, ◌++◌, map, Bool, true}
use Rattle.std.specs.Prelude.{false, not, ◌&&◌, ◌||◌}
use Rattle.std.specs.Prelude.{◌==◌, nat_le, nat_lt, if◌then◌else◌, Option, Some, None, Result, Ok}
use Rattle.std.specs.Prelude.{encode_utf8}
use Rattle.std.specs.Char.{digit_value}
use Rattle.std.specs.Map.{lookup}
use Rattle.al_base.specs.Ascii.{ascii}
use Rattle.al_base.specs.declared.codes.YamlCode.TheVariants as yaml
use Rattle.al_scalar.specs.Line.{Cell, Line, cut, is_blank, after_blanks, is_empty}
use Rattle.al_scalar.specs.Taken.{Taken, ◌>>=◌, before, fault, folding_space}
use Rattle.al_scalar.specs.declared.faults.FaultAt.{FaultAt}

-- How a line of a quoted scalar ends: at the closing quote, with the offset and the cells after it;
-- at a break; at an escaped break; or within the escape at an offset.
pub data QuotedEnd : Type 0 where
  closed : ℕ → List Cell → QuotedEnd
  broken escaped : QuotedEnd
  cut_short : ℕ → QuotedEnd

-- the decoded cells of one line
pub record QuotedLine : Type 0 where
  pub text : List Cell
  pub stop : QuotedEnd

abbrev pub is_broken : QuotedEnd → Bool
is_broken broken = true
is_broken _ = false

abbrev pub with_cells : List Cell → QuotedLine → QuotedLine
with_cells cs p = record { text = cs ++ p.text; stop = p.stop }

-- A cell that isn't escaped. A blank before a break is dropped.
abbrev pub with_own : Cell → QuotedLine → QuotedLine
with_own c p = if is_blank c && is_empty p.text && is_broken p.stop then p
    else with_cells (c ∷ []) p

-- the closing quote, and the cells after it
abbrev pub closed_by : Cell → List Cell → QuotedLine
closed_by c cs = record { text = []; stop = closed (c.1 + 1) cs }

-- A line in single quotes, where `''` is a quote.
abbrev pub single_part : List Cell → QuotedLine
single_part [] = record { text = []; stop = broken }
single_part (c ∷ []) = if c.0 == ascii "'" then closed_by c [] else with_own c (single_part [])
single_part (c ∷ d ∷ cs) =
    if not (c.0 == ascii "'") then with_own c (single_part (d ∷ cs))
    else if d.0 == ascii "'" then with_cells (c ∷ []) (single_part cs)
    else closed_by c (d ∷ cs)

-- The one-letter escapes of 5.7.
abbrev pub escape_table : List (ℕ × ℕ)
escape_table = (ascii "0", 0x00) ∷ (ascii "a", 0x07) ∷ (ascii "b", 0x08) ∷ (ascii "t", 0x09)
    ∷ (ascii "\t", 0x09) ∷ (ascii "n", 0x0a) ∷ (ascii "v", 0x0b) ∷ (ascii "f", 0x0c)
    ∷ (ascii "r", 0x0d) ∷ (ascii "e", 0x1b) ∷ (ascii " ", 0x20) ∷ (ascii "\"", 0x22)
    ∷ (ascii "/", 0x2f) ∷ (ascii "\\", 0x5c) ∷ (ascii "N", 0x85) ∷ (ascii "_", 0xa0)
    ∷ (ascii "L", 0x2028) ∷ (ascii "P", 0x2029) ∷ []

-- how many hexadecimal digits follow
abbrev pub digits_table : List (ℕ × ℕ)
digits_table = (ascii "x", 2) ∷ (ascii "u", 4) ∷ (ascii "U", 8) ∷ []

abbrev pub hex_digit : ℕ → Option ℕ
hex_digit b = if nat_lt (digit_value b) 16 then Some (digit_value b) else None

abbrev pub is_scalar_value : ℕ → Bool
is_scalar_value c = nat_lt c 0xd800 || (nat_le 0xe000 c && nat_lt c 0x110000)

-- the bytes of a character, all with one offset
abbrev pub character_cells : ℕ → ℕ → List Cell
character_cells at code = map (λ b. (b, at)) (encode_utf8 code)

abbrev pub part_before : List Cell → Result QuotedLine FaultAt → Result QuotedLine FaultAt
part_before cs part = part >>= (λ p. Ok (with_cells cs p))

abbrev pub own_before : Cell → Result QuotedLine FaultAt → Result QuotedLine FaultAt
own_before c part = part >>= (λ p. Ok (with_own c p))

-- the character with the code point of an escape, and what follows the escape
abbrev pub escape_character : ℕ → ℕ → Result QuotedLine FaultAt → Result QuotedLine FaultAt
escape_character at code after = if is_scalar_value code
    then part_before (character_cells at code) after else fault yaml.WrongEscape at

abbrev mutual
  -- A line in double quotes.
  pub double_part : List Cell → Result QuotedLine FaultAt
  double_part [] = Ok (record { text = []; stop = broken })
  double_part (c ∷ cs) =
      if c.0 == ascii "\"" then Ok (closed_by c cs)
      else if c.0 == ascii "\\" then escape c.1 cs
      else own_before c (double_part cs)

  -- an escape, from after its backslash, which is at this offset
  pub escape : ℕ → List Cell → Result QuotedLine FaultAt
  escape at [] = Ok (record { text = []; stop = escaped })
  escape at (c ∷ cs) =
      elim (lookup (λ letter. letter == c.0) escape_table) [
        | Some code ↦ part_before (character_cells at code) (double_part cs)
        | None ↦ elim (lookup (λ letter. letter == c.0) digits_table) [
          | None ↦ fault yaml.WrongEscape at
          | Some width ↦ escape_digits at (width - 1) 0 cs
        ]
      ]

  -- the next digit of an escape, where the digits before it have this value and so many follow it
  pub escape_digits : ℕ → ℕ → ℕ → List Cell → Result QuotedLine FaultAt
  escape_digits at more value [] = Ok (record { text = []; stop = cut_short at })
  escape_digits at zero value (c ∷ cs) =
      elim (hex_digit c.0) [
        | None ↦ fault yaml.WrongEscape at
        | Some d ↦ escape_character at (16 * value + d) (double_part cs)
      ]
  escape_digits at (suc n) value (c ∷ cs) =
      elim (hex_digit c.0) [
        | None ↦ fault yaml.WrongEscape at
        | Some d ↦ escape_digits at n (16 * value + d) cs
      ]

-- The result at a line, by how it ends; its break is folded unless it is escaped. quote is the
-- offset of the opening quote.
abbrev pub line_given : ℕ → List Cell → QuotedLine → Line → List Line
    → (Option ℕ → Result Taken FaultAt) → Result Taken FaultAt
line_given quote space p l ls below =
    elim p.stop [
      | closed end rest ↦ Ok (record { text = space ++ p.text; end = end; left = cut rest l ls })
      | cut_short at ↦ (if l.last then fault yaml.UnclosedQuote quote else
          fault yaml.WrongEscape at)
      | _ ↦ (if l.last then fault yaml.UnclosedQuote quote else
          before (space ++ p.text) (below (then_some (is_broken p.stop) l.end)))
    ]

-- a line between the first and the last that is all blanks
abbrev pub is_empty_line : QuotedLine → Line → Bool
is_empty_line p l = is_empty p.text && is_broken p.stop && not l.last

-- The lines after the first: leading blanks are dropped, an empty line is folded to an LF, and no
-- space is left before it.
abbrev pub quoted_lines : (List Cell → Result QuotedLine FaultAt) → ℕ → Option ℕ → List Line
    → Result Taken FaultAt
quoted_lines part quote break [] = fault yaml.UnclosedQuote quote
quoted_lines part quote break (l ∷ ls) =
    let below = (λ (b : Option ℕ). quoted_lines part quote b ls) in
    part (after_blanks l.text) >>= (λ p.
    if is_empty_line p l then before ((ascii "\n", l.end) ∷ []) (below None)
    else line_given quote (folding_space break) p l ls below)

-- a quoted scalar, from after its opening quote
abbrev pub quoted_scalar : (List Cell → Result QuotedLine FaultAt) → ℕ → List Line
    → Result Taken FaultAt
quoted_scalar part quote [] = fault yaml.UnclosedQuote quote
quoted_scalar part quote (l ∷ ls) =
    part l.text >>= (λ p. line_given quote [] p l ls (λ b. quoted_lines part quote b ls))

abbrev pub single_quoted : ℕ → List Line → Result Taken FaultAt
single_quoted quote ls = quoted_scalar (λ text. Ok (single_part text)) quote ls

abbrev pub double_quoted : ℕ → List Line → Result Taken FaultAt
double_quoted quote ls = quoted_scalar (double_part) quote ls
