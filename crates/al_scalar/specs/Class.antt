-- Classes of plain scalars by their text: the core schema (10.3.2).
use Rattle.std.specs.Prelude.{ℕ, List, [], ◌∷◌, Bool, true, false, drop, ◌&&◌, ◌||◌, ◌==◌}
use Rattle.std.specs.Prelude.{if◌then◌else◌, codes}
use Rattle.std.specs.Char.{is_ascii_digit, is_ascii_hexdigit}
use Rattle.std.specs.Int.{is_in_range}
use Rattle.std.specs.List.{list_all, prefix_len}
use Rattle.al_base.specs.Ascii.{ascii, is_sign}
use Rattle.al_base.specs.FirstBytes.{begins_with, first_is}
use Rattle.al_base.specs.Names.{among}
use Rattle.al_scalar.specs.declared.class.Base.{Base}
use Rattle.al_scalar.specs.declared.class.Base.TheVariants as base
use Rattle.al_scalar.specs.declared.styles.Class.{Class}
use Rattle.al_scalar.specs.declared.styles.Class.TheVariants as class

-- ---- words

abbrev pub nulls : List (List ℕ)
nulls = [] ∷ codes "null" ∷ codes "Null" ∷ codes "NULL" ∷ codes "~" ∷ []

abbrev pub booleans : List (List ℕ)
booleans =
    codes "true" ∷ codes "True" ∷ codes "TRUE" ∷ codes "false" ∷ codes "False" ∷ codes "FALSE" ∷ []

abbrev pub infinities : List (List ℕ)
infinities = codes ".inf" ∷ codes ".Inf" ∷ codes ".INF" ∷ []

abbrev pub not_numbers : List (List ℕ)
not_numbers = codes ".nan" ∷ codes ".NaN" ∷ codes ".NAN" ∷ []

-- ---- digits

-- [0-7], [0-9] and [0-9a-fA-F]
abbrev pub is_digit_in : Base → ℕ → Bool
is_digit_in base.Octal b = is_in_range (ascii "0") (ascii "7") b
is_digit_in base.Decimal b = is_ascii_digit b
is_digit_in base.Hexadecimal b = is_ascii_hexdigit b

-- one or more
abbrev pub are_digits : Base → List ℕ → Bool
are_digits base [] = false
are_digits base (b ∷ bs) = list_all (is_digit_in base) (b ∷ bs)

-- after [0-9]*
abbrev pub after_digits : List ℕ → List ℕ
after_digits bs = drop (prefix_len is_ascii_digit bs) bs

-- after [-+]?
abbrev pub without_sign : List ℕ → List ℕ
without_sign bs = if first_is is_sign bs then drop 1 bs else bs

-- ---- numbers

-- a zero, the letter of a base and digits
abbrev pub is_prefixed : ℕ → Base → List ℕ → Bool
is_prefixed letter base bs =
    begins_with (ascii "0") bs && begins_with letter (drop 1 bs) && are_digits base (drop 2 bs)

-- [-+]?[0-9]+, 0o[0-7]+ or 0x[0-9a-fA-F]+
abbrev pub is_integer : List ℕ → Bool
is_integer bs =
    are_digits base.Decimal (without_sign bs) || is_prefixed (ascii "o") base.Octal bs
    || is_prefixed (ascii "x") base.Hexadecimal bs

-- ([eE][-+]?[0-9]+)?
abbrev pub is_exponent : List ℕ → Bool
is_exponent [] = true
is_exponent (b ∷ bs) =
    (b == ascii "e" || b == ascii "E") && are_digits base.Decimal (without_sign bs)

-- (\.[0-9]*)? and the exponent
abbrev pub is_fraction : List ℕ → Bool
is_fraction bs = is_exponent (if begins_with (ascii ".") bs then after_digits (drop 1 bs) else bs)

-- \.[0-9]+ and the exponent
abbrev pub is_pure_fraction : List ℕ → Bool
is_pure_fraction bs = begins_with (ascii ".") bs && first_is is_ascii_digit (drop 1 bs)
    && is_exponent (after_digits (drop 1 bs))

-- (\.[0-9]+|[0-9]+(\.[0-9]*)?)([eE][-+]?[0-9]+)?
abbrev pub is_decimal : List ℕ → Bool
is_decimal bs = is_pure_fraction bs || (first_is is_ascii_digit bs && is_fraction (after_digits bs))

abbrev pub is_float : List ℕ → Bool
is_float bs = is_decimal (without_sign bs) || among infinities (without_sign bs)
    || among not_numbers bs

-- the class of a plain scalar
abbrev pub class_of : List ℕ → Class
class_of bs =
    if among nulls bs then class.Null
    else (if among booleans bs then class.Bool
    else (if is_integer bs then class.Int
    else (if is_float bs then class.Float else class.Str)))
