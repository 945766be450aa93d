-- The position of an offset, as two counts over the whole list of bytes. Breaks are LF, CRLF and CR
-- (YAML 1.2.2, 5.4).
use Rattle.std.specs.Prelude.{◌≡◌, ◌≤◌, ◌<◌, ℕ, zero, suc, ◌+◌, Bool, not, ◌&&◌, ◌||◌, ◌==◌, nat_lt}
use Rattle.std.specs.Prelude.{nat_le, List}
use Rattle.std.specs.Prelude.{slice_index, if◌then◌else◌}
use Rattle.al_base.specs.Ascii.{ascii}

-- how many numbers k below n pass
abbrev pub count_below : (ℕ → Bool) → ℕ → ℕ
count_below p zero = 0
count_below p (suc n) = count_below p n + (if p n then 1 else 0)

-- whether a break ends right after the byte at k: an LF, or a CR without an LF after it (past the
-- end `slice_index` is 0)
abbrev pub ends_break : List ℕ → ℕ → Bool
ends_break bytes k =
    (slice_index bytes k == ascii "\n")
    || ((slice_index bytes k == ascii "\r") && not (slice_index bytes (k + 1) == ascii "\n"))

-- 1 plus the breaks that end at or before the offset
abbrev pub line_at : List ℕ → ℕ → ℕ
line_at bytes offset = 1 + count_below (ends_break bytes) offset

-- whether this byte isn't 80 to BF
abbrev pub begins_char : ℕ → Bool
begins_char byte = nat_lt byte 128 || nat_le 192 byte

-- 1 plus the characters of the offset's line before it
abbrev pub column_at : List ℕ → ℕ → ℕ
column_at bytes offset =
    1 + count_below (λ k. (line_at bytes k == line_at bytes offset)
    && begins_char (slice_index bytes k)) offset

-- the line of an offset begins at start
pub record BeginsLine (bytes : List ℕ) (offset start : ℕ) : Type 0 where
  pub order : start ≤ offset
  pub same : line_at bytes start ≡ line_at bytes offset
  pub first : (k : ℕ) → k < start → line_at bytes k < line_at bytes offset
