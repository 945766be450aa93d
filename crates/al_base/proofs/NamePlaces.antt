-- The position of the first element that passes a test, also after one element is appended.
use Rattle.std.proofs.Common.{◌≡◌, ℕ, ◌+◌, ◌<◌, get_or, map, Bool, true, false, List, [], ◌∷◌, ◌++◌, length, refl, sym, ap, ◌∙◌, arith, Option, Some, None, option_map, suc}
use Rattle.std.specs.Prelude.{find, if◌then◌else◌}
use Rattle.std.proofs.Math.ListN.{get_or-map}
use Rattle.std.proofs.lemmas.List.{length-map}
use Rattle.std.specs.Option.{option_or}
use Rattle.al_base.specs.NamePlaces.{first_at}

module _ {A : Type 0} (test : A → Bool) where
  more_at : (here : Bool) (o more : Option ℕ) → (if here then Some 0 else option_map (λ i. i + 1) (option_or o more))
      ≡ option_or (if here then Some 0 else option_map (λ i. i + 1) o) (option_map (λ i. i + 1) more)
  more_at true o more = refl
  more_at false None more = refl
  more_at false (Some i) more = refl

  last_at : (here : Bool) (n m : ℕ) → n + 1 ≡ m → option_map (λ i. i + 1) (if here then Some n else None) ≡ (if here then Some m else None)
  last_at true n m e = ap Some e
  last_at false n m e = refl

  -- after one element is appended
  pub first_more : (xs : List A) (x : A) → first_at test (xs ++ x ∷ []) ≡ option_or (first_at test xs) (if test x then Some (length xs) else None)
  first_more [] x = refl
  first_more (y ∷ ys) x =
      ap (λ o. if test y then Some 0 else option_map (λ i. i + 1) o) (first_more ys x)
      ∙ more_at (test y) (first_at test ys) (if test x then Some (length ys) else None)
      ∙ ap (option_or (first_at test (y ∷ ys))) (last_at (test x) (length ys) (length (y ∷ ys)) (omega arith))

  within_step : (here : Bool) (o : Option ℕ) (n i : ℕ) → ((j : ℕ) → o ≡ Some j → j < n) → (if here then Some 0 else option_map (λ k. k + 1) o) ≡ Some i → i < n + 1
  within_step true o n i h e = let z : 0 ≡ i = cc in omega (arith, z)
  within_step false None n i h e = absurd cc
  within_step false (Some j) n i h e = let z : j + 1 ≡ i = cc in let y = h j refl in omega (arith, z, y)

  -- The position is within the list.
  pub first_within : (xs : List A) (i : ℕ) → first_at test xs ≡ Some i → i < length xs
  first_within [] i e = absurd cc
  first_within (x ∷ xs) i e =
      let h : i < length xs + 1 = within_step (test x) (first_at test xs) (length xs) i (λ j h. first_within xs j h) e in omega (arith, h)

  find_step : (here : Bool) (o : Option ℕ) (x d : A) (xs : List A) (found : Option A) → found ≡ option_map (λ i. get_or xs i d) o →
      (if here then Some x else found) ≡ option_map (λ i. get_or (x ∷ xs) i d) (if here then Some 0 else option_map (λ k. k + 1) o)
  find_step true o x d xs found e = refl
  find_step false None x d xs found e = e
  find_step false (Some i) x d xs found e = let z : i + 1 ≡ suc i = omega arith in e ∙ ap (λ k. Some (get_or (x ∷ xs) k d)) (sym z)

  -- `find` returns the element at that position.
  pub find_first : (xs : List A) (d : A) → find test xs ≡ option_map (λ i. get_or xs i d) (first_at test xs)
  find_first [] d = refl
  find_first (x ∷ xs) d = find_step (test x) (first_at test xs) x d xs (find test xs) (find_first xs d)

-- the same for a mapped list: the position is within the list, and `find` returns the element there
pub found_within : {X A : Type 0} (g : X → A) (test : A → Bool) (xs : List X) (i : ℕ) → first_at test (map g xs) ≡ Some i → i < length xs
found_within g test xs i e = let h = first_within test (map g xs) i e in omega (arith, h, length-map xs g)

pub found_there : {X A : Type 0} (g : X → A) (test : A → Bool) (xs : List X) (i : ℕ) (x : X) → first_at test (map g xs) ≡ Some i → x ≡ get_or xs i x → Some (g x) ≡ find test (map g xs)
found_there g test xs i x e h =
    ap (λ y. Some (g y)) h ∙ ap Some (sym (get_or-map g xs i x)) ∙ sym (find_first test (map g xs) (g x) ∙ ap (option_map (λ k. get_or (map g xs) k (g x))) e)

nowhere_step : {A : Type 0} (b : Bool) (o : Option ℕ) (x : A) (f : Option A) → (o ≡ None → None ≡ f) → (if b then Some 0 else option_map (λ k. k + 1) o) ≡ None → None ≡ (if b then Some x else f)
nowhere_step true o x f h e = absurd cc
nowhere_step false None x f h e = h refl
nowhere_step false (Some j) x f h e = absurd cc

pub found_nowhere : {A : Type 0} (test : A → Bool) (xs : List A) → first_at test xs ≡ None → None ≡ find test xs
found_nowhere test [] e = refl
found_nowhere test (x ∷ xs) e = nowhere_step (test x) (first_at test xs) x (find test xs) (λ h. found_nowhere test xs h) e
