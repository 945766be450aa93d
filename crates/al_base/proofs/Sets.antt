-- Lists with the same elements: under append, permutation, map and `flat_map`.
use Rattle.std.proofs.Common.{◌≡◌, ◌<◌, ◌≤◌, ◌+◌, ◌∙◌, ⊎_elim, ℕ, zero, suc, List, [], ◌∷◌, ◌++◌}
use Rattle.std.proofs.Common.{append_assoc, append-nil, length, take, get_or, map, ap, arith, refl, subst, sym}
use Rattle.std.specs.Prelude.{Contains}
use Rattle.std.specs.List.{flat_map}
use Rattle.std.specs.List.Sorted.{IsPermutation}
use Rattle.std.proofs.lemmas.Grind.{flat_map-append}
use Rattle.std.proofs.lemmas.List.{get_or-map, length-map, map-append, take_all, take_more}
use Rattle.std.proofs.lemmas.List.Concat.{flat_map_single}
use Rattle.std.proofs.lemmas.List.Elements.{Contains-append_left, Contains-append_right, Contains-append_cases}
use Rattle.std.proofs.lemmas.List.Sorted.{Contains-permutation, IsPermutation-sym}
use Rattle.al_base.proofs.Growing.{same_set}
use Rattle.al_base.specs.Growth.{SameSet}

pub set_sym : {X : Type 0} (xs ys : List X) → SameSet xs ys → SameSet ys xs
set_sym xs ys s x = ((s x).1, (s x).0)

pub set_trans : {X : Type 0} (xs ys zs : List X) → SameSet xs ys → SameSet ys zs → SameSet xs zs
set_trans xs ys zs s t x = (λ h. (t x).0 ((s x).0 h), λ h. (s x).1 ((t x).1 h))

-- appending the same list to both
pub set_more : {X : Type 0} (xs ys zs : List X) → SameSet xs ys → SameSet (xs ++ zs) (ys ++ zs)
set_more xs ys zs s x = (
  λ h. ⊎_elim (λ a. Contains-append_left ys zs x ((s x).0 a)) (λ b. Contains-append_right ys zs x b) (Contains-append_cases xs zs x h),
  λ h. ⊎_elim (λ a. Contains-append_left xs zs x ((s x).1 a)) (λ b. Contains-append_right xs zs x b) (Contains-append_cases ys zs x h),
)

-- prepending the same list to both
pub set_after : {X : Type 0} (xs ys zs : List X) → SameSet ys zs → SameSet (xs ++ ys) (xs ++ zs)
set_after xs ys zs s x = (
  λ h. ⊎_elim (λ a. Contains-append_left xs zs x a) (λ b. Contains-append_right xs zs x ((s x).0 b)) (Contains-append_cases xs ys x h),
  λ h. ⊎_elim (λ a. Contains-append_left xs ys x a) (λ b. Contains-append_right xs ys x ((s x).1 b)) (Contains-append_cases xs zs x h),
)

pub set_both : {X : Type 0} (xs ys zs ws : List X) → SameSet xs ys → SameSet zs ws → SameSet (xs ++ zs) (ys ++ ws)
set_both xs ys zs ws s t = set_trans (xs ++ zs) (ys ++ zs) (ys ++ ws) (set_more xs ys zs s) (set_after ys zs ws t)

-- swapping the middle two of four lists
mix : {X : Type 0} (as' bs cs ds : List X) (x : X) → Contains ((as' ++ bs) ++ (cs ++ ds)) x → Contains ((as' ++ cs) ++ (bs ++ ds)) x
mix as' bs cs ds x h =
    ⊎_elim
    (λ l. ⊎_elim (λ a. Contains-append_left (as' ++ cs) (bs ++ ds) x (Contains-append_left as' cs x a))
    (λ b. Contains-append_right (as' ++ cs) (bs ++ ds) x (Contains-append_left bs ds x b)) (Contains-append_cases as' bs x l))
    (λ r. ⊎_elim (λ c. Contains-append_left (as' ++ cs) (bs ++ ds) x (Contains-append_right as' cs x c))
    (λ d. Contains-append_right (as' ++ cs) (bs ++ ds) x (Contains-append_right bs ds x d)) (Contains-append_cases cs ds x r))
    (Contains-append_cases (as' ++ bs) (cs ++ ds) x h)

pub set_mixed : {X : Type 0} (as' bs cs ds : List X) → SameSet ((as' ++ bs) ++ (cs ++ ds)) ((as' ++ cs) ++ (bs ++ ds))
set_mixed as' bs cs ds x = (mix as' bs cs ds x, mix as' cs bs ds x)

-- Appending elements that are already there adds nothing.
pub set_there : {X : Type 0} (xs zs : List X) → ((x : X) → Contains zs x → Contains xs x) → SameSet xs (xs ++ zs)
set_there xs zs there x = (λ h. Contains-append_left xs zs x h, λ h. ⊎_elim (λ a. a) (λ b. there x b) (Contains-append_cases xs zs x h))

-- The new list has what was found before the old one: the same elements as the old list with all of it appended.
pub set_moved_after : {X : Type 0} (old found whole new : List X) → new ≡ found ++ old → SameSet found whole → SameSet new (old ++ whole)
set_moved_after old found whole new e s = set_trans new (found ++ old) (old ++ whole) (same_set new (found ++ old) e) (λ x. (
  λ h. ⊎_elim (λ a. Contains-append_right old whole x ((s x).0 a)) (λ b. Contains-append_left old whole x b) (Contains-append_cases found old x h),
  λ h. ⊎_elim (λ a. Contains-append_right found old x a) (λ b. Contains-append_left found old x ((s x).1 b)) (Contains-append_cases old whole x h),
))

-- ---- membership in mapped lists

nothing : {X : Type 0} (P : Type 0) (x : X) → Contains [] x → P
nothing P x c = absurd (omega (arith, c.1))

pub head_in : {X : Type 0} (x : X) (xs : List X) → Contains (x ∷ xs) x
head_in x xs = (0, omega arith, refl)

pub tail_in : {X : Type 0} (x : X) (xs : List X) (y : X) → Contains xs y → Contains (x ∷ xs) y
tail_in x xs y c = Contains-append_right (x ∷ []) xs y c

in_flat_map_at : {X Y : Type 0} (g : X → List Y) (xs : List X) (x : X) (y : Y) (k : ℕ) → k < length xs → get_or xs k x ≡ x → Contains (g x) y → Contains (flat_map g xs) y
in_flat_map_at g [] x y k room is c = absurd (omega (arith, room))
in_flat_map_at g (z ∷ zs) x y zero room is c = Contains-append_left (g z) (flat_map g zs) y (subst (λ w. Contains (g w) y) (sym is) c)
in_flat_map_at g (z ∷ zs) x y (suc k) room is c = Contains-append_right (g z) (flat_map g zs) y (in_flat_map_at g zs x y k (omega (arith, room)) is c)

pub in_flat_map : {X Y : Type 0} (g : X → List Y) (xs : List X) (x : X) (y : Y) → Contains xs x → Contains (g x) y → Contains (flat_map g xs) y
in_flat_map g xs x y at c = in_flat_map_at g xs x y at.0 at.1 at.2 c

pub from_flat_map : {X Y : Type 0} (g : X → List Y) (xs : List X) (y : Y) (P : Type 0) → ((x : X) → Contains xs x → Contains (g x) y → P) → Contains (flat_map g xs) y → P
from_flat_map g [] y P h c = nothing P y c
from_flat_map g (x ∷ xs) y P h c =
    ⊎_elim (λ a. h x (head_in x xs) a) (λ b. from_flat_map g xs y P (λ z at. h z (tail_in x xs z at)) b) (Contains-append_cases (g x) (flat_map g xs) y c)

-- `flat_map` over a permutation gives the same elements.
pub set_permuted : {X Y : Type 0} (g : X → List Y) (xs ys : List X) → IsPermutation xs ys → SameSet (flat_map g ys) (flat_map g xs)
set_permuted g xs ys p y = (
  λ h. from_flat_map g ys y (Contains (flat_map g xs) y) (λ x at c. in_flat_map g xs x y (Contains-permutation ys xs x (IsPermutation-sym xs ys p) at) c) h,
  λ h. from_flat_map g xs y (Contains (flat_map g ys) y) (λ x at c. in_flat_map g ys x y (Contains-permutation xs ys x p at) c) h,
)

in_map : {X Y : Type 0} (g : X → Y) (xs ys : List X) → ((x : X) → Contains xs x → Contains ys x) → (y : Y) → Contains (map g xs) y → Contains (map g ys) y
in_map {X} {Y} g xs ys h y c =
    let one : X → List Y = λ x. g x ∷ [] in
    subst (λ l. Contains l y) (flat_map_single g ys)
    (from_flat_map one xs y (Contains (flat_map one ys) y) (λ x at d. in_flat_map one ys x y (h x at) d) (subst (λ l. Contains l y) (sym (flat_map_single g xs)) c))

-- `map` over lists with the same elements
pub set_mapped : {X Y : Type 0} (g : X → Y) (xs ys : List X) → SameSet xs ys → SameSet (map g xs) (map g ys)
set_mapped g xs ys s y = (in_map g xs ys (λ x. (s x).0) y, in_map g ys xs (λ x. (s x).1) y)

-- `flat_map` of a function that gives two parts
pub set_split : {X Y : Type 0} (f g h : X → List Y) → ((x : X) → SameSet (f x) (g x ++ h x)) → (xs : List X) → SameSet (flat_map f xs) (flat_map g xs ++ flat_map h xs)
set_split f g h each [] = λ y. (λ c. c, λ c. c)
set_split f g h each (x ∷ xs) =
    set_trans (f x ++ flat_map f xs) ((g x ++ h x) ++ (flat_map g xs ++ flat_map h xs)) ((g x ++ flat_map g xs) ++ (h x ++ flat_map h xs))
    (set_both (f x) (g x ++ h x) (flat_map f xs) (flat_map g xs ++ flat_map h xs) (each x) (set_split f g h each xs))
    (set_mixed (g x) (h x) (flat_map g xs) (flat_map h xs))

-- `flat_map` over a prefix that is one element longer
pub taken_more : {X Y Z : Type 0} (f : Y → List Z) (v : X → Y) (xs : List X) (i : ℕ) (x : X) → i < length xs → x ≡ get_or xs i x →
    flat_map f (map v (take (i + 1) xs)) ≡ flat_map f (map v (take i xs)) ++ f (v x)
taken_more f v xs i x h e =
    ap (λ ys. flat_map f (map v ys)) (take_more xs i x h ∙ ap (λ y. take i xs ++ y ∷ []) (sym e)) ∙ ap (flat_map f) (map-append v (take i xs) (x ∷ []))
    ∙ flat_map-append f (map v (take i xs)) (v x ∷ []) ∙ ap (λ l. flat_map f (map v (take i xs)) ++ l) (append-nil (f (v x)))

pub list_more : {X Y Z : Type 0} (f : Y → List Z) (v : X → Y) (xs : List X) (i : ℕ) (x : X) (old before now : List Z) → i < length xs → x ≡ get_or xs i x →
    before ≡ old ++ flat_map f (map v (take i xs)) → now ≡ before ++ f (v x) → now ≡ old ++ flat_map f (map v (take (i + 1) xs))
list_more f v xs i x old before now h e so_far is =
    is ∙ ap (λ l. l ++ f (v x)) so_far ∙ append_assoc old (flat_map f (map v (take i xs))) (f (v x)) ∙ ap (λ l. old ++ l) (sym (taken_more f v xs i x h e))

pub step_more : {X Y Z : Type 0} (f : Y → List Z) (v : X → Y) (xs : List X) (i : ℕ) (x : X) (old before now : List Z) → i < length xs → x ≡ get_or xs i x →
    SameSet before (old ++ flat_map f (map v (take i xs))) → SameSet now (before ++ f (v x)) → SameSet now (old ++ flat_map f (map v (take (i + 1) xs)))
step_more f v xs i x old before now h e so_far is =
    let done = flat_map f (map v (take i xs)) in
    set_trans now (before ++ f (v x)) _ is (set_trans _ ((old ++ done) ++ f (v x)) _ (set_more before (old ++ done) (f (v x)) so_far)
    (same_set _ _ (list_more f v xs i x old (old ++ done) ((old ++ done) ++ f (v x)) h e refl refl)))

pub step_last : {X Y Z : Type 0} (f : Y → List Z) (v : X → Y) (xs : List X) (i : ℕ) (old now : List Z) → length xs ≤ i →
    SameSet now (old ++ flat_map f (map v (take i xs))) → SameSet now (old ++ flat_map f (map v xs))
step_last f v xs i old now h s = subst (λ ys. SameSet now (old ++ flat_map f (map v ys))) (take_all i xs h) s

pub mapped_in : {X Y : Type 0} (f : X → Y) (xs : List X) (i : ℕ) (x : X) → i < length xs → x ≡ get_or xs i x → Contains (map f xs) (f x)
mapped_in f xs i x room is = (i, omega (arith, room, length-map xs f), get_or-map f xs i x (f x) room ∙ ap f (sym is))
