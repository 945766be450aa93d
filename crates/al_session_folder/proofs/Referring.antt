-- Sorting lists by a value of each element, such as what a reference refers to, and removing duplicates of that value.
use Rattle.std.proofs.Common.{map, ◌≡◌, ℕ, ◌+◌, Bool, List, [], ◌∷◌, ◌++◌, ◌<◌, length, get_or, take, refl, ◌∙◌, ap, arith}
use Rattle.std.specs.Borrow.{Bor}
use Rattle.std.specs.Cmp.{IsTotalOrder}
use Rattle.std.specs.FinMap.{IsAntisymmetric}
use Rattle.std.specs.List.{dedup, dedup_from}
use Rattle.std.specs.List.Sorted.{IsPermutation, IsSorted}
use Rattle.std.specs.Ordering.{eq_by_cmp}
use Rattle.std.specs.declared.cmp.Ordering.{Ordering}
use Rattle.std.proofs.lemmas.List.{get_or-map, length-map, take_more}
use Rattle.std.proofs.lemmas.List.Sorted.{IsPermutation-map}
use Rattle.al_base.proofs.InOrder.{dedup-in_order}
use Rattle.al_base.specs.InOrder.{in_order}
use Rattle.std.proofs.Math.ListN as at
use Rattle.std.proofs.lemmas.Bool.Decides.{nat_tests}
use Rattle.al_session_folder.specs.Kept.{referents}

module _ {X Y : Type 0} (v : Y → X) where
  dedup_from_mapped : (E : X → X → Bool) (k : Y) (ys : List Y) → map v (dedup_from (λ (x y : Y). E (v x) (v y)) k ys) ≡ dedup_from E (v k) (map v ys)
  dedup_from_mapped E k [] = refl
  dedup_from_mapped E k (y ∷ ys) = rw (← dedup_from_mapped E k ys, ← dedup_from_mapped E y ys) (grind (arith, nat_tests))

  dedup_mapped : (E : X → X → Bool) (ys : List Y) → map v (dedup (λ (x y : Y). E (v x) (v y)) ys) ≡ dedup E (map v ys)
  dedup_mapped E [] = refl
  dedup_mapped E (y ∷ ys) = dedup_from_mapped E y ys

  sorted_mapped : (cmp : X → X → Ordering) (ys : List Y) → IsSorted (λ x y. cmp (v x) (v y)) ys → IsSorted cmp (map v ys)
  sorted_mapped cmp [] s k d low high = absurd (omega (arith, high))
  sorted_mapped cmp (y ∷ ys) s k d low high =
      let n = length-map (y ∷ ys) v in
      rw (get_or-map v (y ∷ ys) (k + 1) y d (omega (arith, n, high)), get_or-map v (y ∷ ys) k y d (omega (arith, n, high))) (s k y low (omega (arith, n, high)))

  -- the result of a sort followed by a `dedup`
  pub ordered_mapped : {cmp : X → X → Ordering} → IsTotalOrder cmp → IsAntisymmetric cmp → (E : X → X → Bool) → ((x y : X) → E x y ≡ eq_by_cmp cmp x y) →
      (ys sorted out : List Y) → IsPermutation ys sorted → IsSorted (λ x y. cmp (v x) (v y)) sorted → out ≡ dedup (λ (x y : Y). E (v x) (v y)) sorted → map v out ≡ in_order cmp (map v ys)
  ordered_mapped {cmp} total same E ties ys sorted out moved s is =
      ap (map v) is ∙ dedup_mapped E sorted ∙ dedup-in_order total same E ties (map v ys) (map v sorted) (IsPermutation-map v ys sorted moved) (sorted_mapped cmp sorted s)

-- the values of the first `i` references, and of one more
pub next_referred : {X : Type 0} (xs : List (Bor X)) (i : ℕ) (x : Bor X) (old new : List X) (y : X) → i < length xs → x ≡ get_or xs i x → y ≡ x.now →
    old ≡ take i (referents xs) → new ≡ old ++ y ∷ [] → new ≡ take (i + 1) (referents xs)
next_referred {X} xs i x old new y within read is before now =
    let front = take_more (referents xs) i x.now (rw length-map within) in
    rw (now, before, is, front, at.get_or-map (λ (r : Bor X). r.now) xs i x, ← read)
