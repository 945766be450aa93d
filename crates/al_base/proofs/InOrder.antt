-- `in_order` is strictly sorted, and depends only on which elements its argument has.
use Rattle.std.proofs.Common.{◌≡◌, ◌≢◌, ℕ, zero, suc, ◌<◌, Bool, true, List, [], ◌∷◌, length, get_or, refl, sym, ap, ◌∙◌, subst, ◌⊎◌, inl, inr, ⊎_elim, arith, true≢false}
use Rattle.std.specs.List.{AllByRecursion, AllPairs, Contains, dedup}
use Rattle.std.specs.List.Sorted.{IsStrictlySortedBy, IsPermutation, IsSorted}
use Rattle.std.specs.Cmp.{IsTotalOrder, IsEquivalence, eq_by_cmp_equiv, tied_itself, Equal-is}
use Rattle.std.specs.FinMap.{IsAntisymmetric}
use Rattle.std.specs.Ordering.{match_ordering, ordering_reverse, is_eq, eq_by_cmp}
use Rattle.std.specs.declared.cmp.Ordering.{Ordering}
use Rattle.std.specs.declared.cmp.Ordering.TheVariants.{Less, Equal, Greater}
use Rattle.std.proofs.lemmas.List.Kept.{Contains-dedup, Contains-from_dedup, IsStrictlySortedBy-dedup}
use Rattle.std.proofs.lemmas.Map.Keys.{Less-from_sorted}
use Rattle.std.proofs.lemmas.List.Sorted.{Contains-permutation, IsPermutation-sym}
use Rattle.al_base.specs.InOrder.{with_one, in_order}

-- x is an element of the list, by recursion
abbrev Has : {X : Type 0} → List X → X → Type 0
Has [] x = ⊥
Has (y ∷ ys) x = (y ≡ x) ⊎ Has ys x

module _ {X : Type 0} where
  has_from : (ys : List X) (x : X) (k : ℕ) → k < length ys → get_or ys k x ≡ x → Has ys x
  has_from [] x k l e = absurd (omega arith)
  has_from (y ∷ ys) x zero l e = inl e
  has_from (y ∷ ys) x (suc k) l e = inr (has_from ys x k (omega arith) e)

  pub has : (ys : List X) (x : X) → Contains ys x → Has ys x
  has ys x h = has_from ys x h.0 h.1 h.2

  pub contains : (ys : List X) (x : X) → Has ys x → Contains ys x
  contains [] x h = absurd h
  contains (y ∷ ys) x h = ⊎_elim (λ e. (0, omega arith, e)) (λ later. let c = contains ys x later in (suc c.0, omega (arith, c.1), c.2)) h

  all_has : (P : X → Type 0) (ys : List X) (x : X) → AllByRecursion P ys → Has ys x → P x
  all_has P [] x all h = absurd h
  all_has P (y ∷ ys) x all h = ⊎_elim (λ e. subst P e all.0) (λ later. all_has P ys x all.1 later) h

  all_weaker : (P Q : X → Type 0) → ((x : X) → P x → Q x) → (ys : List X) → AllByRecursion P ys → AllByRecursion Q ys
  all_weaker P Q f [] all = tt
  all_weaker P Q f (y ∷ ys) all = (f y all.0, all_weaker P Q f ys all.1)

module _ {X : Type 0} {R : X → X → Ordering} (o : IsTotalOrder R) where
  not_below_itself : (x : X) → R x x ≡ Less → ⊥
  not_below_itself x e = true≢false (sym (ap is_eq (tied_itself o x)) ∙ ap is_eq e)

  -- The elements of a strictly sorted list are distinct.
  pub AllPairs-strict : (xs : List X) → IsStrictlySortedBy R xs → AllPairs (λ x y. x ≢ y) xs
  AllPairs-strict xs s i j d after within same =
      not_below_itself (get_or xs i d) (subst (λ y. R (get_or xs i d) y ≡ Less) (sym same) (Less-from_sorted R xs i j d s after within))

module _ {X : Type 0} {R : X → X → Ordering} (o : IsTotalOrder R) (same : IsAntisymmetric R) where
  -- case analysis of `with_one` on a list that is not empty
  by_cmp : (P : List X → Type 0) (x y : X) (ys : List X) → (R x y ≡ Less → P (x ∷ y ∷ ys)) → (R x y ≡ Equal → P (y ∷ ys)) → (R x y ≡ Greater → P (y ∷ with_one R x ys)) → P (with_one R x (y ∷ ys))
  by_cmp P x y ys less equal greater =
      elim (R x y) as (λ r. R x y ≡ r → P (match_ordering r (x ∷ y ∷ ys) (y ∷ ys) (y ∷ with_one R x ys))) [ Less ↦ less | Equal ↦ equal | Greater ↦ greater ] refl

  turned : (x y : X) → R x y ≡ Greater → R y x ≡ Less
  turned x y e = o.antisymm y x ∙ ap ordering_reverse e

  has_with : (x : X) (ys : List X) (z : X) → Has (with_one R x ys) z → (x ≡ z) ⊎ Has ys z
  has_with x [] z = λ h. h
  has_with x (y ∷ ys) z =
      by_cmp (λ l. Has l z → (x ≡ z) ⊎ Has (y ∷ ys) z) x y ys
      (λ _ h. h)
      (λ _ h. inr h)
      (λ _ h. ⊎_elim (λ e. inr (inl e)) (λ later. ⊎_elim (λ e. inl e) (λ l. inr (inr l)) (has_with x ys z later)) h)

  with_has : (x : X) (ys : List X) (z : X) → (x ≡ z) ⊎ Has ys z → Has (with_one R x ys) z
  with_has x [] z = λ h. h
  with_has x (y ∷ ys) z =
      by_cmp (λ l. (x ≡ z) ⊎ Has (y ∷ ys) z → Has l z) x y ys
      (λ _ h. h)
      (λ e h. ⊎_elim (λ is. inl (sym (same x y e) ∙ is)) (λ l. l) h)
      (λ _ h. ⊎_elim (λ is. inr (with_has x ys z (inl is))) (λ l. ⊎_elim (λ is. inl is) (λ later. inr (with_has x ys z (inr later))) l) h)

  all_with : (P : X → Type 0) (x : X) (ys : List X) → P x → AllByRecursion P ys → AllByRecursion P (with_one R x ys)
  all_with P x [] p all = (p, tt)
  all_with P x (y ∷ ys) p all = by_cmp (AllByRecursion P) x y ys (λ _. (p, all)) (λ _. all) (λ _. (all.0, all_with P x ys p all.1))

  strict_with : (x : X) (ys : List X) → IsStrictlySortedBy R ys → IsStrictlySortedBy R (with_one R x ys)
  unfolding IsStrictlySortedBy
  strict_with x [] s = (tt, tt)
  strict_with x (y ∷ ys) s =
      by_cmp (IsStrictlySortedBy R) x y ys
      (λ e. ((e, all_weaker (λ z. R y z ≡ Less) (λ z. R x z ≡ Less) (λ z l. o.trans x y z e l) ys s.0), s))
      (λ _. s)
      (λ e. (all_with (λ z. R y z ≡ Less) x ys (turned x y e) s.0, strict_with x ys s.1))

  has_ordered : (xs : List X) (z : X) → Has (in_order R xs) z → Has xs z
  has_ordered [] z h = h
  has_ordered (x ∷ xs) z h = ⊎_elim (λ e. inl e) (λ l. inr (has_ordered xs z l)) (has_with x (in_order R xs) z h)

  ordered_has : (xs : List X) (z : X) → Has xs z → Has (in_order R xs) z
  ordered_has [] z h = h
  ordered_has (x ∷ xs) z h = with_has x (in_order R xs) z (⊎_elim (λ e. inl e) (λ l. inr (ordered_has xs z l)) h)

  -- Two strictly sorted lists with the same elements are equal.
  one_list : (xs ys : List X) → IsStrictlySortedBy R xs → IsStrictlySortedBy R ys → ((z : X) → Has xs z → Has ys z) → ((z : X) → Has ys z → Has xs z) → xs ≡ ys
  unfolding IsStrictlySortedBy
  one_list [] [] s t f g = refl
  one_list [] (y ∷ ys) s t f g = absurd (g y (inl refl))
  one_list (x ∷ xs) [] s t f g = absurd (f x (inl refl))
  one_list (x ∷ xs) (y ∷ ys) s t f g =
      let first : x ≡ y =
      ⊎_elim sym (λ in_ys. ⊎_elim (λ e. e)
      (λ in_xs. absurd (not_below_itself o x
      (o.trans x y x (all_has (λ z. R x z ≡ Less) xs y s.0 in_xs) (all_has (λ z. R y z ≡ Less) ys x t.0 in_ys)))) (g y (inl refl)))
      (f x (inl refl)) in
      let into : (z : X) → Has xs z → Has ys z = λ z h.
      ⊎_elim (λ e. absurd (not_below_itself o x (subst (λ w. R x w ≡ Less) (sym (first ∙ e)) (all_has (λ w. R x w ≡ Less) xs z s.0 h)))) (λ l. l) (f z (inr h)) in
      let back : (z : X) → Has ys z → Has xs z = λ z h.
      ⊎_elim (λ e. absurd (not_below_itself o y (subst (λ w. R y w ≡ Less) (sym (sym first ∙ e)) (all_has (λ w. R y w ≡ Less) ys z t.0 h)))) (λ l. l) (g z (inr h)) in
      let rest : xs ≡ ys = one_list xs ys s.1 t.1 into back in
      λ i. first i ∷ rest i

  pub IsStrictlySortedBy-in_order : (xs : List X) → IsStrictlySortedBy R (in_order R xs)
  unfolding IsStrictlySortedBy
  IsStrictlySortedBy-in_order [] = tt
  IsStrictlySortedBy-in_order (x ∷ xs) = strict_with x (in_order R xs) (IsStrictlySortedBy-in_order xs)

  pub Contains-in_order : (xs : List X) (z : X) → Contains xs z → Contains (in_order R xs) z
  Contains-in_order xs z h = contains _ z (ordered_has xs z (has xs z h))

  pub Contains-from_in_order : (xs : List X) (z : X) → Contains (in_order R xs) z → Contains xs z
  Contains-from_in_order xs z h = contains xs z (has_ordered xs z (has _ z h))

  pub AllByRecursion-in_order : (P : X → Type 0) (xs : List X) → AllByRecursion P xs → AllByRecursion P (in_order R xs)
  AllByRecursion-in_order P [] all = tt
  AllByRecursion-in_order P (x ∷ xs) all = all_with P x (in_order R xs) all.0 (AllByRecursion-in_order P xs all.1)

  -- A strictly sorted list with the elements of xs is `in_order R xs`.
  pub in_order_is : (xs ys : List X) → IsStrictlySortedBy R ys → ((z : X) → Contains xs z → Contains ys z) → ((z : X) → Contains ys z → Contains xs z) → ys ≡ in_order R xs
  in_order_is xs ys s f g =
      one_list ys (in_order R xs) s (IsStrictlySortedBy-in_order xs)
      (λ z h. ordered_has xs z (has xs z (g z (contains ys z h))))
      (λ z h. has ys z (f z (contains xs z (has_ordered xs z h))))

  -- Lists with the same elements give the same `in_order`.
  pub in_order-same : (xs ys : List X) → ((z : X) → Contains xs z → Contains ys z) → ((z : X) → Contains ys z → Contains xs z) → in_order R xs ≡ in_order R ys
  in_order-same xs ys f g =
      in_order_is ys (in_order R xs) (IsStrictlySortedBy-in_order xs)
      (λ z h. Contains-in_order xs z (g z h))
      (λ z h. f z (Contains-from_in_order xs z h))

  -- A strictly sorted list is its own `in_order`.
  pub in_order-sorted : (xs : List X) → IsStrictlySortedBy R xs → in_order R xs ≡ xs
  in_order-sorted xs s = sym (in_order_is xs xs s (λ z h. h) (λ z h. h))

  -- `dedup` of a sorted permutation of xs is `in_order R xs`.
  pub dedup-in_order : (E : X → X → Bool) → ((x y : X) → E x y ≡ eq_by_cmp R x y) → (xs ys : List X) → IsPermutation xs ys → IsSorted R ys → dedup E ys ≡ in_order R xs
  dedup-in_order E ties xs ys moved sorted =
      let told : (x y : X) → E x y ≡ true → x ≡ y = λ x y e. same x y ((Equal-is (R x y)).0 (sym (ties x y) ∙ e)) in
      in_order_is xs (dedup E ys) (IsStrictlySortedBy-dedup o ties ys sorted)
      (λ z h. Contains-dedup (subst IsEquivalence (λ i x y. sym (ties x y) i) (eq_by_cmp_equiv o)) told ys z (Contains-permutation xs ys z moved h))
      (λ z h. Contains-permutation ys xs z (IsPermutation-sym xs ys moved) (Contains-from_dedup E ys z h))
