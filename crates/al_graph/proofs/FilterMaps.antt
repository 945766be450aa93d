-- The elements of a `filter_map`.
use Rattle.std.proofs.Common.{◌≡◌, ℕ, zero, suc, ◌<◌, List, [], ◌∷◌, length, get_or, Option, Some, None, sym, ◌∙◌, ap, subst, refl, arith, ⊎_elim}
use Rattle.std.specs.Prelude.{Contains}
use Rattle.std.specs.List.{cons_option, filter_map}
use Rattle.std.proofs.lemmas.List.Elements.{Contains-append_right, Contains-append_cases}
use Rattle.al_graph.proofs.Lists.{none_in, one_is}

module _ {X : Type 0} (h : X → Option ℕ) where
  pub put_first : (o : Option ℕ) (k : ℕ) (rest : List ℕ) → o ≡ Some k → Contains (cons_option o rest) k
  put_first o k rest e = subst (λ p. Contains (cons_option p rest) k) (sym e) (0, omega arith, refl)

  pub put_after : (o : Option ℕ) (k : ℕ) (rest : List ℕ) → Contains rest k → Contains (cons_option o rest) k
  put_after None k rest c = c
  put_after (Some n) k rest c = Contains-append_right (n ∷ []) rest k c

  pub in_filter_map : (xs : List X) (at : ℕ) (x : X) (k : ℕ) → at < length xs → x ≡ get_or xs at x → h x ≡ Some k → Contains (filter_map h xs) k
  in_filter_map [] at x k lt is e = absurd (omega arith)
  in_filter_map (y ∷ ys) zero x k lt is e = put_first (h y) k (filter_map h ys) (ap h (sym is) ∙ e)
  in_filter_map (y ∷ ys) (suc at) x k lt is e = put_after (h y) k (filter_map h ys) (in_filter_map ys at x k (omega arith) is e)

  took : (P : ℕ → Type 0) (o : Option ℕ) (k : ℕ) (rest : List ℕ) → ((n : ℕ) → o ≡ Some n → P n) → (Contains rest k → P k) → Contains (cons_option o rest) k → P k
  took P None k rest f g c = g c
  took P (Some n) k rest f g c = ⊎_elim (λ one. subst P (one_is n k one) (f n refl)) g (Contains-append_cases (n ∷ []) rest k c)

  pub all_in_filter_map : (P : ℕ → Type 0) → ((x : X) (k : ℕ) → h x ≡ Some k → P k) → (xs : List X) (k : ℕ) → Contains (filter_map h xs) k → P k
  all_in_filter_map P f [] k c = absurd (none_in k c)
  all_in_filter_map P f (x ∷ xs) k c = took P (h x) k (filter_map h xs) (f x) (all_in_filter_map P f xs k) c
