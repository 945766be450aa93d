-- The cells at the front that pass a test, taken or dropped, cell by cell.
use Rattle.std.proofs.Common.{◌≡◌, ℕ, suc, ◌+◌, List, [], ◌∷◌, Bool, true, false, ap, arith, cond, drop, take, refl}
use Rattle.std.specs.List.{prefix_len}
use Rattle.al_scalar.specs.Line.{Cell}

one_more : (n : ℕ) → 1 + n ≡ suc n
one_more n = omega arith

module _ (test : Cell → Bool) (c : Cell) (cs : List Cell) where
  pub drop-front : drop (prefix_len test (c ∷ cs)) (c ∷ cs) ≡ cond (test c) (drop (prefix_len test cs) cs) (c ∷ cs)
  drop-front = by (test c) (prefix_len test cs)
    where
      by : (b : Bool) (n : ℕ) → drop (cond b (1 + n) 0) (c ∷ cs) ≡ cond b (drop n cs) (c ∷ cs)
      by true n = ap (λ m. drop m (c ∷ cs)) (one_more n)
      by false n = refl

  pub take-front : take (prefix_len test (c ∷ cs)) (c ∷ cs) ≡ cond (test c) (c ∷ take (prefix_len test cs) cs) []
  take-front = by (test c) (prefix_len test cs)
    where
      by : (b : Bool) (n : ℕ) → take (cond b (1 + n) 0) (c ∷ cs) ≡ cond b (c ∷ take n cs) []
      by true n = ap (λ m. take m (c ∷ cs)) (one_more n)
      by false n = refl
