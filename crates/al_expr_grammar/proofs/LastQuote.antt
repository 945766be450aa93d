-- The last quote, by what a search from the end finds.
use Rattle.std.proofs.Common.{◌≡◌, ◌≢◌, ◌<◌, ℕ, zero, suc, ◌+◌, List, [], ◌∷◌, length, drop, refl, sym, add-one, arith, Option, Some, None}
use Rattle.std.proofs.lemmas.Bool.Decides.{nat_tests}
use Rattle.std.proofs.lemmas.List.Elements.{All-head, All-tail}
use Rattle.std.specs.Prelude.{All, MatchOption, slice_index, false}
use Rattle.al_expr_grammar.specs.Tokens.{is_quote, last_quote}

abbrev Other : ℕ → Type 0
Other b = b ≢ 39

no_quote : (bs : List ℕ) → All Other bs → last_quote bs ≡ None
no_quote [] h = refl
no_quote (b ∷ bs) h =
    let here : b ≢ 39 = All-head Other b bs h in
    let other : is_quote b ≡ false = grind (arith, nat_tests, here) in
    rw (no_quote bs (All-tail Other b bs h), other) refl

quote_at : (bs : List ℕ) (i : ℕ) → i < length bs → slice_index bs i ≡ 39 → All Other (drop (suc i) bs) → last_quote bs ≡ Some i
quote_at [] i h e a = absurd (omega (arith, h))
quote_at (b ∷ bs) zero h e a = rw (no_quote bs a, e) refl
quote_at (b ∷ bs) (suc i) h e a = rw (quote_at bs i (omega (arith, h)) e a) refl

pub last_is : (bs : List ℕ) (o : Option ℕ) → MatchOption o (All Other bs) (λ i. (i < length bs) × (slice_index bs i ≡ 39) × All Other (drop (i + 1) bs)) → o ≡ last_quote bs
last_is bs None h = sym (no_quote bs h)
last_is bs (Some i) h = let rest = rw add-one at h.2 in sym (quote_at bs i h.0 h.1 rest)
