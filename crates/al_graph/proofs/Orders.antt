-- Orders of nodes to which one node is appended.
use Rattle.std.proofs.Common.{◌≡◌, ℕ, suc, ◌+◌, ◌<◌, List, [], ◌∷◌, ◌++◌, length, refl, subst, ap, ◌∙◌, arith, ◌⊎◌, ⊎_elim, length-append}
use Rattle.std.specs.List.{AllByRecursion}
use Rattle.std.specs.Prelude.{Contains}
use Rattle.std.proofs.lemmas.List.{get_or_append_left}
use Rattle.std.proofs.lemmas.List.Elements.{Contains-append_cases}
use Rattle.std.proofs.Math.Seq.{get_or-append_seam}
use Rattle.al_graph.specs.Graphs.{Walk, here, onward}
use Rattle.al_graph.specs.Private.Finishing.{Chain, node_at}
use Rattle.al_graph.proofs.Lists.{none_in, one_is}

-- Walks compose.
pub both_walks : (graph : List (List ℕ)) (i j k : ℕ) → Walk graph i j → Walk graph j k → Walk graph i k
both_walks graph i j _ w here = w
both_walks graph i j _ w (onward a b v e) = onward a b (both_walks graph i j a w v) e

pub at_before : (order : List ℕ) (w i : ℕ) → i < length order → node_at (order ++ w ∷ []) i ≡ node_at order i
at_before order w i h = get_or_append_left order (w ∷ []) 0 i h

pub at_end : (order : List ℕ) (w i : ℕ) → i ≡ length order → node_at (order ++ w ∷ []) i ≡ w
at_end order w i e = ap (λ n. node_at (order ++ w ∷ []) n) e ∙ get_or-append_seam order w [] 0

-- A position in the longer order is one of the old order, or the last.
pub last_or_before : (order : List ℕ) (w i : ℕ) → i < length (order ++ w ∷ []) → (i < length order) ⊎ (i ≡ length order)
last_or_before order w i h =
    let n : length (order ++ w ∷ []) ≡ length order + 1 = length-append order (w ∷ []) in
    grind (arith, n, h)

module _ {X : Type 0} (P : X → Type 0) where
  pub all_front : (xs ys : List X) → AllByRecursion P (xs ++ ys) → AllByRecursion P xs
  all_front [] ys h = tt
  all_front (x ∷ xs) ys h = (h.0, all_front xs ys h.1)

  pub all_last : (xs : List X) (y : X) → AllByRecursion P (xs ++ y ∷ []) → P y
  all_last [] y h = h.0
  all_last (x ∷ xs) y h = all_last xs y h.1

  pub all_more : (xs : List X) (y : X) → AllByRecursion P xs → P y → AllByRecursion P (xs ++ y ∷ [])
  all_more [] y h p = (p, tt)
  all_more (x ∷ xs) y h p = (h.0, all_more xs y h.1 p)

  pub all_weaker : (Q : X → Type 0) → ((x : X) → P x → Q x) → (xs : List X) → AllByRecursion P xs → AllByRecursion Q xs
  all_weaker Q f [] h = tt
  all_weaker Q f (x ∷ xs) h = (f x h.0, all_weaker Q f xs h.1)

pub all_of : (P : ℕ → Type 0) (xs : List ℕ) → ((k : ℕ) → Contains xs k → P k) → AllByRecursion P xs
all_of P [] f = tt
all_of P (x ∷ xs) f = (f x (0, omega arith, refl), all_of P xs (λ k c. f k (suc c.0, (let lt = c.1 in omega (arith, lt)), c.2)))

-- ---- chains

module _ (graph : List (List ℕ)) where
  pub chain_front : (xs : List ℕ) (y : ℕ) → Chain graph (xs ++ y ∷ []) → Chain graph xs
  chain_front [] y h = tt
  chain_front (x ∷ xs) y h = (all_front (Walk graph x) xs (y ∷ []) h.0, chain_front xs y h.1)

  pub chain_last : (xs : List ℕ) (y : ℕ) → Chain graph (xs ++ y ∷ []) → AllByRecursion (λ x. Walk graph x y) xs
  chain_last [] y h = tt
  chain_last (x ∷ xs) y h = (all_last (Walk graph x) xs y h.0, chain_last xs y h.1)

  pub chain_more : (xs : List ℕ) (y : ℕ) → Chain graph xs → AllByRecursion (λ x. Walk graph x y) xs → Chain graph (xs ++ y ∷ [])
  chain_more [] y h w = (tt, tt)
  chain_more (x ∷ xs) y h w = (all_more (Walk graph x) xs y h.0 w.0, chain_more xs y h.1 w.1)

pub all_at : (P : ℕ → Type 0) (xs : List ℕ) (k : ℕ) → AllByRecursion P xs → Contains xs k → P k
all_at P [] k h c = absurd (none_in k c)
all_at P (x ∷ xs) k h c = ⊎_elim (λ one. subst P (one_is x k one) h.0) (λ r. all_at P xs k h.1 r) (Contains-append_cases (x ∷ []) xs k c)
