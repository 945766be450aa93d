-- There is a walk between two nodes exactly if there is one of bounded length.
use Rattle.std.proofs.Common.{◌≡◌, ℕ, zero, suc, ◌+◌, ◌<◌, ◌≤◌, List, [], ◌∷◌, length, refl, sym, subst, arith, Bool, true}
use Rattle.std.proofs.Common.{false, cond, eq-eqb, nat_eq, inl, inr, ◌⊎◌}
use Rattle.std.specs.Prelude.{slice_index_or, ◌↔◌}
use Rattle.std.specs.List.{list_any}
use Rattle.std.proofs.lemmas.Bool.{cases_lt, eqb-true, or_cases, or_right}
use Rattle.std.proofs.lemmas.Bool.Decides.{nat_tests}
use Rattle.std.proofs.lemmas.List.{get_or_past}
use Rattle.std.proofs.lemmas.List.Folds.{Any-from_list_any, list_any-from_Any}
use Rattle.al_graph.specs.Graphs.{Walk, here, onward}
use Rattle.al_graph.specs.Within.{leads, leads_within}
use Rattle.al_graph.proofs.Orders.{both_walks}

any_also : (p q : ℕ → Bool) (xs : List ℕ) → ((x : ℕ) → p x ≡ true → q x ≡ true) → list_any p xs ≡ true → list_any q xs ≡ true
any_also p q [] f e = e
any_also p q (x ∷ xs) f e = let here = f x in let rest = any_also p q xs f in grind (arith, nat_tests, here, rest)

module _ (g : List (List ℕ)) where
  no_step : (j k : ℕ) → nat_eq j k ≡ true → Walk g j k
  no_step j k e = subst (λ x. Walk g j x) (eqb-true j k e) here

  pub walk_of : (n j k : ℕ) → leads_within n g j k ≡ true → Walk g j k
  walk_of zero j k e = no_step j k e
  walk_of (suc n) j k e = elim (or_cases (nat_eq j k) (list_any (λ i. leads_within n g i k) (slice_index_or g j [])) e) [
    | inl h ↦ no_step j k h
    | inr h ↦
        let a = Any-from_list_any (λ i. leads_within n g i k) (slice_index_or g j []) h in
        both_walks g j a.1 k (onward j a.1 here (a.0, a.2, a.3)) (walk_of n a.1 k a.4)
  ]

  module _ (k : ℕ) where
    there : (n j : ℕ) → nat_eq j k ≡ true → leads_within n g j k ≡ true
    there zero j e = e
    there (suc n) j e = grind (arith, nat_tests)

    longer : (n j : ℕ) → leads_within n g j k ≡ true → leads_within (suc n) g j k ≡ true
    longer zero j e = grind (arith, nat_tests)
    longer (suc n) j e =
        let more = any_also (λ i. leads_within n g i k) (λ i. leads_within (suc n) g i k) (slice_index_or g j []) (λ i. longer n i) in
        grind (arith, nat_tests, more)

    -- one more step reaches no further node
    abbrev Stable : ℕ → Type 0
    Stable n = (j : ℕ) → leads_within (suc n) g j k ≡ true → leads_within n g j k ≡ true

    stays : (n : ℕ) → Stable n → Stable (suc n)
    stays n s j e =
        let less = any_also (λ i. leads_within (suc n) g i k) (λ i. leads_within n g i k) (slice_index_or g j []) s in
        grind (arith, nat_tests, less)

-- ---- counting the numbers below a bound that pass a test

abbrev count : (ℕ → Bool) → ℕ → ℕ
count p zero = 0
count p (suc n) = cond (p n) 1 0 + count p n

count_small : (p : ℕ → Bool) (n : ℕ) → count p n ≤ n
count_small p zero = omega arith
count_small p (suc n) = let rest = count_small p n in grind (arith, nat_tests, rest)

count_more : (p q : ℕ → Bool) (n : ℕ) → ((j : ℕ) → p j ≡ true → q j ≡ true) → count p n ≤ count q n
count_more p q zero f = omega arith
count_more p q (suc n) f = let here = f n in let rest = count_more p q n f in grind (arith, nat_tests, here, rest)

new_or_old : (a b : Bool) → ((a ≡ false) × (b ≡ true)) ⊎ (b ≡ true → a ≡ true)
new_or_old true b = inr (λ e. refl)
new_or_old false true = inl (refl, refl)
new_or_old false false = inr (λ e. e)

at_most : (j n : ℕ) → j < suc n → (j < n) ⊎ (j ≡ n)
at_most j n h = grind arith

last_or_before : (q p : ℕ → Bool) (n j : ℕ) → ((q n ≡ true) → p n ≡ true) → ((i : ℕ) → i < n → q i ≡ true → p i ≡ true) → j < suc n →
    q j ≡ true → p j ≡ true
last_or_before q p n j last before h e = elim (at_most j n h) [
  | inl below ↦ before j below e
  | inr same ↦ subst (λ i. p i ≡ true) (sym same) (last (subst (λ i. q i ≡ true) same e))
]

more_or_same : (p q : ℕ → Bool) (n : ℕ) → ((j : ℕ) → p j ≡ true → q j ≡ true) → (count p n < count q n)
    ⊎ ((j : ℕ) → j < n → q j ≡ true → p j ≡ true)
more_or_same p q zero f = inr (λ j h e. absurd (omega (arith, h)))
more_or_same p q (suc n) f = elim (more_or_same p q n f) [
  | inl less ↦ let here = f n in inl (grind (arith, nat_tests, less, here))
  | inr same ↦ elim (new_or_old (p n) (q n)) [
    | inl new ↦ let no = new.0 in let yes = new.1 in let rest = count_more p q n f in inl (grind (arith, nat_tests, no, yes, rest))
    | inr old ↦ inr (λ j. last_or_before q p n j old same)
  ]
]

-- ---- as many steps as there are nodes are enough

module _ (g : List (List ℕ)) (k : ℕ) where
  outside : (n j : ℕ) → length g ≤ j → leads_within (suc n) g j k ≡ true → nat_eq j k ≡ true
  outside n j h e = let here = rw (get_or_past g j [] h) at e in grind (arith, nat_tests)

  stable_from : (n : ℕ) → ((j : ℕ) → j < length g → leads_within (suc n) g j k ≡ true → leads_within n g j k ≡ true) → Stable g k n
  stable_from n f j e = elim (cases_lt j (length g)) [
    | inl below ↦ f j below e
    | inr far ↦ there g k n j (outside n j far e)
  ]

  progress : (n : ℕ) → Stable g k n ⊎ (n ≤ count (λ j. leads_within n g j k) (length g))
  progress zero = inr (omega arith)
  progress (suc n) = elim (progress n) [
    | inl s ↦ inl (stays g k n s)
    | inr many ↦ elim (more_or_same (λ j. leads_within n g j k) (λ j. leads_within (suc n) g j k) (length g) (λ j. longer g k n j)) [
      | inl more ↦ inr (omega (arith, many, more))
      | inr same ↦ inl (stays g k n (stable_from n same))
    ]
  ]

  stable : Stable g k (suc (length g))
  stable = elim (progress (suc (length g))) [
    | inl s ↦ s
    | inr many ↦ absurd (omega (arith, many, count_small (λ j. leads_within (suc (length g)) g j k) (length g)))
  ]

  back_along : (j : ℕ) {m : ℕ} → Walk g j m → leads_within (suc (length g)) g m k ≡ true → leads_within (suc (length g)) g j k ≡ true
  back_along j here e = e
  back_along j (onward a b w f) e =
      back_along j w (stable a (or_right (nat_eq a k) _
      (list_any-from_Any (λ i. leads_within (suc (length g)) g i k) (slice_index_or g a []) (f.0, b, f.1, f.2, e))))

  pub leads_of : (j : ℕ) → Walk g j k → leads_within (suc (length g)) g j k ≡ true
  leads_of j w = back_along j w (there g k (suc (length g)) k (eq-eqb k k refl))

pub leads_tells : (graph : List (List ℕ)) (j k : ℕ) → (leads graph j k ≡ true) ↔ Walk graph j k
leads_tells graph j k = (λ e. walk_of graph (suc (length graph)) j k e, λ w. leads_of graph k j w)
