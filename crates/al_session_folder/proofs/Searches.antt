-- A binary search among sorted paths gives the position of the path.
use Rattle.std.proofs.lemmas.Map.Keys.{sorted_tail, Less-from_sorted}
use Rattle.std.proofs.Common.{◌≡◌, ℕ, zero, suc, ◌+◌, ◌<◌, ◌≤◌, List, [], ◌∷◌, length, map, get_or, Result, Ok, Err, refl, sym, ◌∙◌, ap, subst, arith}
use Rattle.std.specs.List.Sorted.{IsStrictlySortedBy, IsSearchInRange, IsBinarySearchResult, IsNonDecreasingBy}
use Rattle.std.specs.Ordering.{nat_cmp, is_lt, ordering_reverse, ordering_index}
use Rattle.std.specs.declared.cmp.Ordering.{Ordering}
use Rattle.std.specs.declared.cmp.Ordering.TheVariants.{Less, Equal, Greater}
use Rattle.std.specs.Cmp.Lexicographic.{slice_cmp}
use Rattle.std.proofs.lemmas.Cmp.{nat_list_cmp_total}
use Rattle.std.proofs.Math.ListN.{get_or-map}
use Rattle.std.proofs.lemmas.List.{length-map}
use Rattle.std.proofs.lemmas.List.Sorted.{searchable_from_sorted}
use Rattle.std.specs.Fn.{Called}
use Rattle.std.proofs.lemmas.Fn.{always_returns_same}
use denote.Ref.{Bor}
use denote.Param.Members.{Mut}
use Rattle.std.proofs.Common.{String}
use Rattle.std.specs.Prelude.{string_bytes}
use Rattle.std.specs.Global.{Global}
use Rattle.indexmap.specs.Calls.{ComputesOnEntry}
use Rattle.al_session_folder.specs.Place.{path_place}
use Rattle.std.proofs.lemmas.Map.Lookups.{exact_bytes}

abbrev cmp : List ℕ → List ℕ → Ordering
cmp a b = slice_cmp nat_cmp a b

flipped : (a b : List ℕ) (o : Ordering) → cmp a b ≡ o → cmp b a ≡ ordering_reverse o
flipped a b o h = nat_list_cmp_total.antisymm b a ∙ ap ordering_reverse h

module _ {X : Type 0} (key : X → List ℕ) (p : List ℕ) where
  place_at : (xs : List X) (i : ℕ) (d : X) → IsStrictlySortedBy (slice_cmp nat_cmp) (map key xs) → i < length xs → cmp (key (get_or xs i d)) p ≡ Equal → path_place (map key xs) p ≡ Ok i
  place_at [] i d s h e = absurd (omega arith)
  place_at (x ∷ xs) zero d s h e = rw (flipped (key x) p Equal e)
  place_at (x ∷ xs) (suc i) d s h e =
      let later = Less-from_sorted cmp (map key (x ∷ xs)) 0 (suc i) (key d) s (omega arith) (rw length-map h) in
      let less : cmp (key x) p ≡ Less = ap (cmp (key x)) (sym (exact_bytes (key (get_or xs i d)) p e)) ∙ rw (get_or-map key xs i d) at later in
      rw (flipped (key x) p Less less, place_at xs i d (sorted_tail cmp (key x) (map key xs) s) (omega arith) e)

  place_between : (xs : List X) (i : ℕ) (d : X) → i ≤ length xs → ((k : ℕ) → k < i → cmp (key (get_or xs k d)) p ≡ Less)
      → ((k : ℕ) → i ≤ k → k < length xs → cmp (key (get_or xs k d)) p ≡ Greater) → path_place (map key xs) p ≡ Err i
  place_between [] zero d h below above = refl
  place_between [] (suc i) d h below above = absurd (omega arith)
  place_between (x ∷ xs) zero d h below above = rw (flipped (key x) p Greater (above 0 (omega arith) (omega arith)))
  place_between (x ∷ xs) (suc i) d h below above =
      let rest = place_between xs i d (omega arith) (λ k l. below (suc k) (omega arith)) (λ k l m. above (suc k) (omega arith) (omega arith)) in
      rw (flipped (key x) p Less (below 0 (omega arith)), rest)

  -- the results of comparing with `p` don't decrease along the list
  rises : (xs : List X) → IsStrictlySortedBy (slice_cmp nat_cmp) (map key xs) → IsNonDecreasingBy (λ x. ordering_index (slice_cmp nat_cmp (key x) p)) xs
  rises xs s = searchable_from_sorted nat_list_cmp_total key xs p (λ k d low high.
      let less = Less-from_sorted cmp (map key xs) k (k + 1) (key d) s (omega arith) (rw length-map high) in
      ap is_lt (flipped (key (get_or xs k d)) (key (get_or xs (k + 1) d)) Less (rw (get_or-map key xs k d, get_or-map key xs (k + 1) d) at less)))

  place_is : (xs : List X) (r : Result ℕ ℕ) → IsStrictlySortedBy (slice_cmp nat_cmp) (map key xs) → IsSearchInRange r (length xs)
      → IsBinarySearchResult (λ x. slice_cmp nat_cmp (key x) p) xs r → r ≡ path_place (map key xs) p
  place_is [] (Ok i) s within found = absurd (omega (arith, within))
  place_is [] (Err i) s within found = ap Err (omega (arith, within))
  place_is (x ∷ xs) (Ok i) s within found = sym (place_at (x ∷ xs) i x s within (found x))
  place_is (x ∷ xs) (Err i) s within found =
      let parted = found (rises (x ∷ xs) s) in
      sym (place_between (x ∷ xs) i x within (λ k l. parted.0 k x (omega arith) l) (λ k l m. parted.1 k x l m))

-- likewise for the entries of a map
pub place_from_entries : {V : Type 0} (p : List ℕ) {F : Type 0} {g : Mut F (Bor (String Global) × (Bor V × Unit {0})) Ordering} {f : F}
    (es : List (String Global × V)) (ps : List (List ℕ)) (r : Result ℕ ℕ)
    → map (λ (e : String Global × V). string_bytes e.0) es ≡ ps → IsStrictlySortedBy (slice_cmp nat_cmp) ps → IsSearchInRange r (length es)
    → ((ord : String Global × V → Ordering) → ComputesOnEntry g ord f → IsBinarySearchResult ord es r)
    → ((a : Bor (String Global) × (Bor V × Unit {0})) (o : Ordering) (f' : F) → Called g f a o f' → (o ≡ slice_cmp nat_cmp (string_bytes a.0.now) p) × (f' ≡ f))
    → r ≡ path_place ps p
place_from_entries {V = V} p {g = g} {f = f} es ps r same s within found calls =
    let key : String Global × V → List ℕ = λ e. string_bytes e.0 in
    let sorted = subst (IsStrictlySortedBy (slice_cmp nat_cmp)) (sym same) s in
    place_is key p es r sorted within
    (found (λ e. slice_cmp nat_cmp (string_bytes e.0) p)
    (always_returns_same g (λ a o. o ≡ slice_cmp nat_cmp (string_bytes a.0.now) p) f calls)) ∙ ap (λ l. path_place l p) same
