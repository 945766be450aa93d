-- The code's ranges as the specification has them, and saturating numbers.
use Rattle.std.specs.Prelude.{ℕ, List, map, nat_lt, if◌then◌else◌}
use Rattle.std.specs.Int.Digits.{number_from_digits_after}
use Rattle.al_base.specs.Digits.{digit_of}
use Rattle.al_rules_formats.specs.Schedules as schedules
use Rattle.std.specs.Borrow.{Bor}
use Rattle.al_rules_formats.specs.declared.schedules.Range.{Range}

abbrev pub range_name : Bor (List ℕ) × ℕ → List ℕ × ℕ
range_name n = (n.0.now, n.1)

abbrev pub range_of : Range → schedules.Range
range_of r = record { low = r.low; high = r.high; names = map range_name r.names.now }

-- the number that digits give after digits that gave `n`
abbrev pub number_on : ℕ → List ℕ → ℕ
number_on n digits = number_from_digits_after 10 n (map digit_of digits)

-- a number, saturating at 1,000
abbrev pub least_thousand : ℕ → ℕ
least_thousand n = if nat_lt n 1000 then n else 1000
