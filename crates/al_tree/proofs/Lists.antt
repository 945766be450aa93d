-- What loops over lists have done after one more item, and properties of the first entries of each key.
use Rattle.std.specs.Prelude.{ℕ, Bool, true, false, List, [], ◌∷◌, ◌++◌, ◌+◌, ◌<◌, length, find, Option, Some, None, option_map, if◌then◌else◌}
use Rattle.std.proofs.Common.{◌≡◌, Bor, refl, ap, append_assoc, map, cond, add-one, drop, drop-cons, get_or, subst, sym, take, ◌∙◌}
use Rattle.std.proofs.lemmas.List.{get_or-map, length-map, map-append, map_more}
use Rattle.std.specs.List.{AllByRecursion}
use Rattle.al_base.proofs.Elements.{each_both, each_either}
use Rattle.al_scalar.specs.Scalar.{Scalar}
use Rattle.al_yaml_tree.specs.Node.{Node}
use Rattle.al_tree.specs.Keys.{key_of, keys_in}
use Rattle.al_tree.specs.Values.{firsts_by}

pub firsts_kept : (is_in : List (List ℕ) → List ℕ → Bool) (P : Scalar × Node → Type 0) (seen : List (List ℕ)) (es : List (Scalar × Node)) → AllByRecursion P es
    → AllByRecursion P (firsts_by is_in seen es)
firsts_kept is_in P seen [] p = tt
firsts_kept is_in P seen (e ∷ es) p =
    each_both P (cond (is_in seen (key_of e)) [] (e ∷ [])) (firsts_by is_in (seen ++ key_of e ∷ []) es)
    (each_either P (is_in seen (key_of e)) [] (e ∷ []) tt (p.0, tt)) (firsts_kept is_in P (seen ++ key_of e ∷ []) es p.1)

-- the remaining items, and the texts of the items before them, after one more item
pub left_next : {X Y : Type 0} (f : X → Y) (xs : List X) (i : ℕ) (x : X) → i < length xs → x ≡ get_or xs i x
    → map f (drop i xs) ≡ f x ∷ map f (drop (i + 1) xs)
left_next f xs i x within is = ap (map f) (rw add-one (drop-cons xs i x within) ∙ ap (λ y. y ∷ drop (i + 1) xs) (sym is))

pub texts_next : {X Y : Type 0} (g : Y → List ℕ) (f : X → Y) (xs : List X) (i : ℕ) (x : X) → i < length xs → x ≡ get_or xs i x
    → map g (map f (take (i + 1) xs)) ≡ map g (map f (take i xs)) ++ g (f x) ∷ []
texts_next g f xs i x within is =
    ap (map g) (map_more f xs i x within)
    ∙ map-append g (map f (take i xs)) (f (get_or xs i x) ∷ [])
    ∙ ap (λ y. map g (map f (take i xs)) ++ g (f y) ∷ []) (sym is)

-- the text of the item at index i
pub text_there : {X Y : Type 0} (g : Y → List ℕ) (f : X → Y) (ys xs : List X) (i : ℕ) (x : X) → ys ≡ xs → i < length xs → x ≡ get_or xs i x
    → get_or (map g (map f ys)) i [] ≡ g (f x)
text_there g f ys xs i x same within is =
    ap (λ l. get_or (map g (map f l)) i []) same
    ∙ get_or-map g (map f xs) i (f x) [] (subst (λ n. i < n) (sym (length-map xs f)) within)
    ∙ ap g (get_or-map f xs i x (f x) within ∙ ap f (sym is))

-- the first entries so far, and those of the remaining items, after one more item
module _ (is_in : List (List ℕ) → List ℕ → Bool) {X : Type 0} (f : X → Scalar × Node) (xs : List X) (i : ℕ) (x : X) where
  pub firsts_next : (found more : List (Scalar × Node)) (repeats : Bool) → i < length xs → x ≡ get_or xs i x
      → repeats ≡ is_in (keys_in (map f (take i xs))) (key_of (f x)) → more ≡ found ++ (if repeats then [] else f x ∷ [])
      → more ++ firsts_by is_in (keys_in (map f (take (i + 1) xs))) (map f (drop (i + 1) xs))
      ≡ found ++ firsts_by is_in (keys_in (map f (take i xs))) (map f (drop i xs))
  firsts_next found more repeats within is known added =
      let before = keys_in (map f (take i xs)) in
      let left = map f (drop (i + 1) xs) in
      let new = if is_in before (key_of (f x)) then [] else f x ∷ [] in
      ap (λ ms. ms ++ firsts_by is_in (keys_in (map f (take (i + 1) xs))) left) (added ∙ ap (λ b. found ++ (if b then [] else f x ∷ [])) known)
      ∙ ap (λ ks. (found ++ new) ++ firsts_by is_in ks left) (texts_next key_of f xs i x within is)
      ∙ append_assoc found new (firsts_by is_in (before ++ key_of (f x) ∷ []) left)
      ∙ ap (λ es. found ++ firsts_by is_in before es) (sym (left_next f xs i x within is))

-- the first item of a slice whose view passes a test
module _ {X Y : Type 0} (f : X → Y) (p : Y → Bool) where
  first_or : (here : Bool) (x : X) (after : Option X) (r : Option Y) → option_map f after ≡ r →
      option_map f (if here then Some x else after) ≡ (if here then Some (f x) else r)
  first_or true x after r e = refl
  first_or false x after r e = e

  find_view : (xs : List X) → option_map f (find (λ x. p (f x)) xs) ≡ find p (map f xs)
  find_view [] = refl
  find_view (x ∷ xs) = first_or (p (f x)) x _ _ (find_view xs)

  pub found_view : (xs : List X) (r : Option (Bor X)) → option_map (λ x. x.now) r ≡ find (λ x. p (f x)) xs →
      option_map (λ x. f x.now) r ≡ find p (map f xs)
  found_view xs None e = ap (option_map f) e ∙ find_view xs
  found_view xs (Some x) e = ap (option_map f) e ∙ find_view xs
