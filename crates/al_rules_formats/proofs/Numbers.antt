-- Saturating numbers.
use Rattle.std.proofs.Common.{◌≡◌, ℕ, ◌+◌, ◌*◌, ◌-◌, ◌<◌, true, List, [], ◌∷◌, length, drop}
use Rattle.std.proofs.Common.{get_or, sym, ap, ◌∙◌, arith, ◌&&◌}
use Rattle.std.proofs.lemmas.List.{at_drop_more}
use Rattle.std.specs.Char.{is_ascii_digit}
use Rattle.std.specs.List.{list_all}
use Rattle.al_rules_formats.specs.Private.Views.{least_thousand, number_on}

-- saturating before another digit changes nothing
cut_next : (n d : ℕ) → least_thousand (least_thousand n * 10 + d) ≡ least_thousand (n * 10 + d)
cut_next n d = grind arith

cut_again : (n : ℕ) → least_thousand (least_thousand n) ≡ least_thousand n
cut_again n = grind arith

pub cut_number : (ds : List ℕ) (n : ℕ) → least_thousand (number_on (least_thousand n) ds) ≡ least_thousand (number_on n ds)
cut_number [] n = cut_again n
cut_number (d ∷ ds) n =
    sym (cut_number ds (least_thousand n * 10 + (d - 48))) ∙ ap (λ k. least_thousand (number_on k ds)) (cut_next n (d - 48)) ∙ cut_number ds (n * 10 + (d - 48))

pub number_step : (bs : List ℕ) (i n next : ℕ) → i < length bs → next ≡ least_thousand (n * 10 + (get_or bs i 0 - 48))
    → least_thousand (number_on next (drop (i + 1) bs)) ≡ least_thousand (number_on n (drop i bs))
number_step bs i n next h e =
    ap (λ k. least_thousand (number_on k (drop (i + 1) bs))) e ∙ cut_number (drop (i + 1) bs) (n * 10 + (get_or bs i 0 - 48)) ∙ sym (at_drop_more (λ ds. least_thousand (number_on n ds)) bs i 0 h)

pub digits_step : (bs : List ℕ) (i : ℕ) → i < length bs → is_ascii_digit (get_or bs i 0) ≡ true → list_all is_ascii_digit (drop (i + 1) bs) ≡ list_all is_ascii_digit (drop i bs)
digits_step bs i h e = sym (at_drop_more (list_all is_ascii_digit) bs i 0 h ∙ ap (λ b. b && list_all is_ascii_digit (drop (i + 1) bs)) e)
