-- The number that is written in decimal digits.
use Rattle.std.specs.Prelude.{ℕ, ◌-◌, List, map}
use Rattle.std.specs.Int.Digits.{number_from_digits}
use Rattle.al_base.specs.Ascii.{ascii}

-- the value of a digit
abbrev pub digit_of : ℕ → ℕ
digit_of b = b - ascii "0"

abbrev pub number_from_decimal : List ℕ → ℕ
number_from_decimal digits = number_from_digits 10 (map digit_of digits)
