-- Walks of any number of edges that is greater than the number of nodes lead to the same nodes.
use Rattle.std.proofs.Common.{◌≡◌, ℕ, zero, suc, ◌<◌, ◌≤◌, List, [], ◌∷◌, length, refl, sym, arith, Bool, true, false}
use Rattle.std.specs.List.{list_any}
use Rattle.std.specs.Prelude.{slice_index_or}
use Rattle.std.proofs.lemmas.Bool.Decides.{nat_tests}
use Rattle.al_graph.specs.Within.{leads, leads_within}
use Rattle.al_graph.proofs.BoundedWalks.{leads_of, walk_of}

same_test : (a b : Bool) → (a ≡ true → b ≡ true) → (b ≡ true → a ≡ true) → a ≡ b
same_test true b f g = sym (f refl)
same_test false true f g = g refl
same_test false false f g = refl

any_also : (p q : ℕ → Bool) (xs : List ℕ) → ((x : ℕ) → p x ≡ true → q x ≡ true) → list_any p xs ≡ true → list_any q xs ≡ true
any_also p q [] f e = e
any_also p q (x ∷ xs) f e = let here = f x in let rest = any_also p q xs f in grind (arith, nat_tests, here, rest)

module _ (graph : List (List ℕ)) (k : ℕ) where
  -- more edges lead at least as far
  longer : (less most j : ℕ) → less ≤ most → leads_within less graph j k ≡ true → leads_within most graph j k ≡ true
  longer zero zero j h e = e
  longer zero (suc most) j h e = grind (arith, nat_tests)
  longer (suc less) zero j h e = absurd (omega (arith, h))
  longer (suc less) (suc most) j h e =
      let more = any_also (λ i. leads_within less graph i k) (λ i. leads_within most graph i k) (slice_index_or graph j [])
      (λ i. longer less most i (omega (arith, h))) in
      grind (arith, nat_tests, more)

pub any_bound : (most : ℕ) (graph : List (List ℕ)) (j k : ℕ) → length graph < most → leads_within most graph j k ≡ leads graph j k
any_bound most graph j k h =
    same_test (leads_within most graph j k) (leads graph j k) (λ e. leads_of graph k j (walk_of graph most j k e))
    (λ e. longer graph k (suc (length graph)) most j h e)
