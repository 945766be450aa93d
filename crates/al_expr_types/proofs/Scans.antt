-- Finding the first element that passes a test by a linear scan, and building an index of names along the way.
use Rattle.std.proofs.Common.{◌≡◌, ℕ, ◌+◌, ◌<◌, List, [], ◌∷◌, ◌++◌, map, take, length, get_or, zero, suc, sym, ap, ◌∙◌, Bool, true, false, Option, Some, None, option_map, arith}
use Rattle.std.proofs.lemmas.List.{length-map, length-take, map_more}
use Rattle.std.specs.Option.{option_or}
use Rattle.std.specs.Prelude.{if◌then◌else◌}
use Rattle.al_base.specs.NamePlaces.{first_at, name_place}
use Rattle.al_base.proofs.NamePlaces.{first_more}
use Rattle.al_expr_types.specs.Places.{IsNameIndex, and_place, place_in}
use Rattle.al_expr_types.specs.declared.name_index.NameIndex.{NameIndex}
use Rattle.al_expr_types.proofs.NameIndexes.{placed_new}

here_step : (b : Bool) (o p : Option ℕ) (i : ℕ) → (if b then Some 0 else option_map (λ k. k + 1) o) ≡ None → (o ≡ None → p ≡ Some i) →
    (if b then Some 0 else option_map (λ k. k + 1) p) ≡ Some (suc i)
here_step true o p i n h = absurd cc
here_step false (Some j) p i n h = absurd cc
here_step false None p i n h =
    let next : i + 1 ≡ suc i = omega arith in
    ap (option_map (λ k. k + 1)) (h n) ∙ ap Some next

-- a prefix with one more element, under a map
pub mapped_more : {X Y : Type 0} (g : X → Y) (xs : List X) (i : ℕ) (x : X) → i < length xs → x ≡ get_or xs i x →
    map g (take (i + 1) xs) ≡ map g (take i xs) ++ g x ∷ []
mapped_more g xs i x lt e = map_more g xs i x lt ∙ ap (λ y. map g (take i xs) ++ g y ∷ []) (sym e)

-- the element at an index, if none before it passes
pub found_here : {X Y : Type 0} (g : X → Y) (test : Y → Bool) (xs : List X) (i : ℕ) (x : X) → i < length xs → x ≡ get_or xs i x →
    first_at test (map g (take i xs)) ≡ None → test (g x) ≡ true → first_at test (map g xs) ≡ Some i
found_here g test [] i x lt e n t = absurd (omega (arith, lt))
found_here g test (y ∷ xs) zero x lt e n t =
    ap (λ b. if b then Some 0 else option_map (λ k. k + 1) (first_at test (map g xs))) (ap (λ z. test (g z)) (sym e) ∙ t)
found_here g test (y ∷ xs) (suc i) x lt e n t =
    here_step (test (g y)) (first_at test (map g (take i xs))) (first_at test (map g xs)) i n
    (λ m. found_here g test xs i x (omega (arith, lt)) e m t)

-- none before an index passes, nor does the element there
pub missed_here : {X Y : Type 0} (g : X → Y) (test : Y → Bool) (xs : List X) (i : ℕ) (x : X) → i < length xs → x ≡ get_or xs i x →
    first_at test (map g (take i xs)) ≡ None → test (g x) ≡ false → first_at test (map g (take (i + 1) xs)) ≡ None
missed_here g test xs i x lt e n t =
    ap (first_at test) (mapped_more g xs i x lt e) ∙ first_more test (map g (take i xs)) (g x)
    ∙ ap (λ o. option_or o (if test (g x) then Some (length (map g (take i xs))) else None)) n
    ∙ ap (λ b. if b then Some (length (map g (take i xs))) else None) t

-- an index of the first `i` names, and the name at `i` added
pub indexed_more : {X : Type 0} (g : X → List ℕ) (old new : NameIndex) (xs : List X) (i : ℕ) (d : X) → i < length xs → IsNameIndex old (map g (take i xs)) →
    place_in new ≡ and_place (place_in old) (g (get_or xs i d)) i → IsNameIndex new (map g (take (i + 1) xs))
indexed_more g old new xs i d lt h e =
    let long : i ≡ length (map g (take i xs)) = omega (arith, length-map (take i xs) g, length-take i xs, lt) in
    placed_new old new (map g (take i xs)) (g (get_or xs i d)) i h long e ∙ ap name_place (sym (map_more g xs i d lt))
