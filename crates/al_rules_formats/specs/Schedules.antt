-- The grammar of schedules, and their minutes (GitHub, "Events that trigger workflows",
-- `schedule`).
use Rattle.std.specs.Prelude.{ℕ, List, [], ◌∷◌, Bool, Option, Some, None, option_map}
use Rattle.std.specs.Prelude.{option_and_then, map, length}
use Rattle.std.specs.Prelude.{◌-◌, ◌%◌, ◌==◌, nat_lt, nat_le, ◌&&◌, codes, if◌then◌else◌, is_some}
use Rattle.std.specs.Bool.{then_some}
use Rattle.std.specs.Int.{is_in_range}
use Rattle.std.specs.Map.{lookup}
use Rattle.std.specs.List.{list_all, list_any, filter, range_with_len}
use Rattle.std.specs.Option.{option_or, unwrap_or}
use Rattle.std.specs.Str.{bytes_eq}
use Rattle.std.specs.Char.{is_ascii_digit}
use Rattle.al_base.specs.Ascii.{ascii}
use Rattle.al_base.specs.Digits.{number_from_decimal}
use Rattle.al_base.specs.Names.{same_name}
use Rattle.al_rules_formats.specs.Texts.{pieces}
use Rattle.al_rules_formats.specs.declared.schedules.Item.{Item}

-- a field accepts the numbers from low to high, and names for some of them
pub record Range : Type 0 where
  pub low : ℕ
  pub high : ℕ
  pub names : List (List ℕ × ℕ)

abbrev pub range : ℕ → ℕ → List (List ℕ × ℕ) → Range
range low high names = record { low = low; high = high; names = names }

abbrev pub month_names : List (List ℕ × ℕ)
month_names =
    (codes "jan", 1) ∷ (codes "feb", 2) ∷ (codes "mar", 3) ∷ (codes "apr", 4) ∷ (codes "may", 5)
    ∷ (codes "jun", 6) ∷ (codes "jul", 7) ∷ (codes "aug", 8) ∷ (codes "sep", 9) ∷ (codes "oct", 10)
    ∷ (codes "nov", 11) ∷ (codes "dec", 12) ∷ []

abbrev pub day_names : List (List ℕ × ℕ)
day_names =
    (codes "sun", 0) ∷ (codes "mon", 1) ∷ (codes "tue", 2) ∷ (codes "wed", 3) ∷ (codes "thu", 4)
    ∷ (codes "fri", 5) ∷ (codes "sat", 6) ∷ []

-- the number with these decimal digits
abbrev pub written_number : List ℕ → Option ℕ
written_number bs =
    then_some (nat_lt 0 (length bs) && list_all is_ascii_digit bs) (number_from_decimal bs)

abbrev pub number_in : ℕ → ℕ → List ℕ → Option ℕ
number_in low high bs =
    option_and_then (λ n. then_some (is_in_range low high n) n) (written_number bs)

-- a value: a name, ignoring case, or a number in the range
abbrev pub schedule_value : Range → List ℕ → Option ℕ
schedule_value r bs = option_or (lookup (same_name bs) r.names) (number_in r.low r.high bs)

-- An item has the numbers from its low one to its high one, in steps: here those from one value to
-- another, unless they descend.
abbrev pub from_to : ℕ → ℕ → ℕ → Option Item
from_to step a b = then_some (nat_le a b) (record { low = a; high = b; step = step })

-- the meaning of a value: with a step, all numbers from it on
abbrev pub from_value : Range → Option ℕ → ℕ → Option Item
from_value r None a = from_to 1 a a
from_value r (Some step) a = from_to step a r.high

-- the meaning of `*`, of a value and of value-value
abbrev pub head_of : Range → Option ℕ → List (List ℕ) → Option Item
head_of r step (a ∷ []) =
    if bytes_eq a (codes "*") then from_to (unwrap_or step 1) r.low r.high
    else option_and_then (from_value r step) (schedule_value r a)
head_of r step (a ∷ b ∷ []) =
    option_and_then (λ m. option_and_then (from_to (unwrap_or step 1) m) (schedule_value r b))
    (schedule_value r a)
head_of r step _ = None

-- a head, optionally with a slash and a step from 1 to the greatest value
abbrev pub item_parts : Range → List (List ℕ) → Option Item
item_parts r (head ∷ []) = head_of r None (pieces (ascii "-") head)
item_parts r (head ∷ step ∷ []) =
    option_and_then (λ n. head_of r (Some n) (pieces (ascii "-") head)) (number_in 1 r.high step)
item_parts r _ = None

-- all values, if none is missing
abbrev pub collect_all : {X : Type 0} → List (Option X) → Option (List X)
collect_all [] = Some []
collect_all (x ∷ xs) = option_and_then (λ y. option_map (λ ys. y ∷ ys) (collect_all xs)) x

-- items separated by commas
abbrev pub items_of_field : Range → List ℕ → Option (List Item)
items_of_field r bs =
    collect_all (map (λ item. item_parts r (pieces (ascii "/") item)) (pieces (ascii ",") bs))

abbrev pub is_field : Range → List ℕ → Bool
is_field r bs = is_some (items_of_field r bs)

-- the texts between spaces
abbrev pub words : List ℕ → List (List ℕ)
words bs = filter (λ w. nat_lt 0 (length w)) (pieces (ascii " ") bs)

-- Five fields: minutes, hours, days of the month, months, days of the week. If all are valid, the
-- items of the minutes.
abbrev pub minutes_in : List (List ℕ) → Option (List Item)
minutes_in (m ∷ h ∷ d ∷ o ∷ w ∷ []) =
    if is_field (range 0 23 []) h && is_field (range 1 31 []) d
    && is_field (range 1 12 month_names) o && is_field (range 0 6 day_names) w
    then items_of_field (range 0 59 []) m else None
minutes_in _ = None

abbrev pub schedule_of : List ℕ → Option (List Item)
schedule_of bs = minutes_in (words bs)

-- an item has n
abbrev pub picks : ℕ → Item → Bool
picks n i = nat_le i.low n && nat_le n i.high && nat_lt 0 i.step && ((n - i.low) % i.step == 0)

-- the minutes from 0 to 59 that these items have
abbrev pub minute_set : List Item → List ℕ
minute_set items = filter (λ n. list_any (picks n) items) (range_with_len 0 60)

-- the second number is greater than the first, by less than 5
abbrev pub is_just_below : ℕ → ℕ → Bool
is_just_below m n = nat_lt m n && nat_lt (n - m) 5

abbrev pub is_too_often : List Item → Bool
is_too_often items = let minutes = minute_set items in
    list_any (λ m. list_any (is_just_below m) minutes) minutes
