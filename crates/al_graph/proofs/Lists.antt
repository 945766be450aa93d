-- Elements of short lists.
use Rattle.std.proofs.Common.{◌≡◌, ℕ, zero, suc, ◌<◌, [], ◌∷◌, get_or, refl}
use Rattle.std.proofs.Common.{arith}
use Rattle.std.specs.Prelude.{Contains}

one_at : (k j i : ℕ) → i < 1 → get_or (k ∷ []) i j ≡ j → k ≡ j
one_at k j zero h e = e
one_at k j (suc i) h e = absurd (omega (arith, h))

-- the elements of a one-element list and of the empty list
pub one_is : (k j : ℕ) → Contains (k ∷ []) j → k ≡ j
one_is k j h = one_at k j h.0 h.1 h.2

pub is_one : (k : ℕ) → Contains (k ∷ []) k
is_one k = (0, omega arith, refl)

pub none_in : (k : ℕ) → Contains [] k → ⊥
none_in k h = let below : h.0 < 0 = h.1 in omega (arith, below)
