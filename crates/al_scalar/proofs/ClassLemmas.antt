-- A plain scalar whose first byte begins no word and no number is a string.
use Rattle.std.proofs.Common.{◌≡◌, ℕ, List, [], ◌∷◌, drop, refl, sym, ap, ◌∙◌, arith, Bool, true, false, ◌&&◌, ◌||◌, ◌==◌, cond}
use Rattle.std.proofs.lemmas.Grind.{common_steps}
use Rattle.std.specs.Char.{is_ascii_digit}
use Rattle.std.specs.List.{list_all}
use Rattle.std.proofs.lemmas.Bool.{and_parts, eqb-true, false_from_ne_true, or_from}
use Rattle.al_base.specs.FirstBytes.{begins_with, first_is}
use Rattle.al_base.specs.Names.{among}
use Rattle.al_scalar.specs.Class.{nulls, booleans, infinities, not_numbers, is_digit_in, are_digits, after_digits, without_sign}
use Rattle.al_scalar.specs.Class.{is_prefixed, is_integer, is_exponent, is_fraction, is_pure_fraction, is_decimal, is_float, class_of}
use Rattle.al_base.specs.Ascii.{ascii}
use Rattle.al_scalar.proofs.LineCells.{never}
use Rattle.al_scalar.specs.declared.class.Base.{Base}
use Rattle.al_scalar.specs.declared.class.Base.TheVariants as base
use Rattle.al_scalar.specs.declared.styles.Class.TheVariants as class

-- a digit, a sign, a point, a tilde, or the first letter of null, true or false in either case
abbrev begins_value : ℕ → Bool
begins_value b = is_ascii_digit b || (b == ascii "+") || (b == ascii "-") || (b == ascii ".") || (b == 126) || (b == 110)
    || (b == 78) || (b == 116) || (b == 84) || (b == 102) || (b == 70)

string-by : (p q r s : Bool) → p ≡ false → q ≡ false → r ≡ false → s ≡ false
    → cond p class.Null (cond q class.Bool (cond r class.Int (cond s class.Float class.Str))) ≡ class.Str
string-by p q r s e f g h = rw (e, f, g, h) refl

abbrev begins_so : List ℕ → Bool
begins_so [] = true
begins_so (a ∷ more) = begins_value a

-- the first byte begins no word and no number
module _ (b : ℕ) (bs : List ℕ) (h : begins_value b ≡ false) where
  other : (a : ℕ) → begins_value a ≡ true → (b == a) ≡ false
  other a k = false_from_ne_true (b == a) (λ e. never (sym h ∙ ap begins_value (eqb-true b a e) ∙ k))

  no-word : (words : List (List ℕ)) → list_all begins_so words ≡ true → among words (b ∷ bs) ≡ false
  no-word [] k = refl
  no-word ([] ∷ words) k = no-word words k
  no-word ((a ∷ more) ∷ words) k =
      let both = and_parts (begins_value a) (list_all begins_so words) k in
      rw (other a both.0) (no-word words both.1)

  no-digit : is_ascii_digit b ≡ false
  no-digit = grind (arith, common_steps, h)

  no-sign : without_sign (b ∷ bs) ≡ b ∷ bs
  no-sign = rw (other 43 refl, other 45 refl) refl

  no-prefix : (letter : ℕ) (base : Base) (cs : List ℕ) → is_prefixed letter base (b ∷ cs) ≡ false
  no-prefix letter base cs = ap (λ x. x && begins_with letter cs && are_digits base (drop 1 cs)) (other 48 refl)

  integer-no : is_integer (b ∷ bs) ≡ false
  integer-no =
      let digits : are_digits base.Decimal (b ∷ bs) ≡ false = ap (λ x. x && list_all (is_digit_in base.Decimal) bs) no-digit in
      or_from (are_digits base.Decimal (without_sign (b ∷ bs)) || is_prefixed 111 base.Octal (b ∷ bs)) (is_prefixed 120 base.Hexadecimal (b ∷ bs))
      (or_from (are_digits base.Decimal (without_sign (b ∷ bs))) (is_prefixed 111 base.Octal (b ∷ bs)) (ap (are_digits base.Decimal) no-sign ∙ digits)
      (no-prefix 111 base.Octal bs))
      (no-prefix 120 base.Hexadecimal bs)

  decimal-no : is_decimal (b ∷ bs) ≡ false
  decimal-no =
      or_from (is_pure_fraction (b ∷ bs)) (first_is is_ascii_digit (b ∷ bs) && is_fraction (after_digits (b ∷ bs)))
      (ap (λ x. x && first_is is_ascii_digit bs && is_exponent (after_digits bs)) (other 46 refl))
      (ap (λ x. x && is_fraction (after_digits (b ∷ bs))) no-digit)

  float-no : is_float (b ∷ bs) ≡ false
  float-no =
      or_from (is_decimal (without_sign (b ∷ bs)) || among infinities (without_sign (b ∷ bs))) (among not_numbers (b ∷ bs))
      (or_from (is_decimal (without_sign (b ∷ bs))) (among infinities (without_sign (b ∷ bs))) (ap is_decimal no-sign ∙ decimal-no)
      (ap (among infinities) no-sign ∙ no-word infinities refl))
      (no-word not_numbers refl)

  pub is_string : class_of (b ∷ bs) ≡ class.Str
  is_string =
      string-by (among nulls (b ∷ bs)) (among booleans (b ∷ bs)) (is_integer (b ∷ bs)) (is_float (b ∷ bs)) (no-word nulls refl) (no-word booleans refl)
      integer-no float-no
