-- A property of all elements of a list, or of an option's value, is preserved by maps, filters and searches.
use Rattle.std.specs.Prelude.{Bool, true, false, List, [], ◌∷◌, ◌++◌, map, Option, Some, None, IfSome, find, option_and_then, option_map}
use Rattle.std.proofs.Common.{◌≡◌, ◌||◌, ap, cond, refl}
use Rattle.std.specs.List.{AllByRecursion, cons_option, filter_map, flat_map, list_any}
use Rattle.std.specs.Option.{option_map_or, option_to_list}

pub each_both : {X : Type 0} (P : X → Type 0) (xs ys : List X) → AllByRecursion P xs → AllByRecursion P ys → AllByRecursion P (xs ++ ys)
each_both P [] ys p q = q
each_both P (x ∷ xs) ys p q = (p.0, each_both P xs ys p.1 q)

pub each_either : {X : Type 0} (P : X → Type 0) (b : Bool) (xs ys : List X) → AllByRecursion P xs → AllByRecursion P ys → AllByRecursion P (cond b xs ys)
each_either P true xs ys p q = p
each_either P false xs ys p q = q

pub each_of : {X Y : Type 0} (P : X → Type 0) (Q : Y → Type 0) (f : X → List Y) → ((x : X) → P x → AllByRecursion Q (f x)) → (xs : List X) → AllByRecursion P xs → AllByRecursion Q (flat_map f xs)
each_of P Q f h [] p = tt
each_of P Q f h (x ∷ xs) p = each_both Q (f x) (flat_map f xs) (h x p.0) (each_of P Q f h xs p.1)

pub each_as : {X Y : Type 0} (P : X → Type 0) (Q : Y → Type 0) (f : X → Y) → ((x : X) → P x → Q (f x)) → (xs : List X) → AllByRecursion P xs → AllByRecursion Q (map f xs)
each_as P Q f h [] p = tt
each_as P Q f h (x ∷ xs) p = (h x p.0, each_as P Q f h xs p.1)

pub each_cons : {X : Type 0} (P : X → Type 0) (o : Option X) (xs : List X) → IfSome o P → AllByRecursion P xs → AllByRecursion P (cons_option o xs)
each_cons P None xs p q = q
each_cons P (Some x) xs p q = (p, q)

pub each_some : {X Y : Type 0} (P : X → Type 0) (Q : Y → Type 0) (f : X → Option Y) → ((x : X) → P x → IfSome (f x) Q) → (xs : List X) → AllByRecursion P xs → AllByRecursion Q (filter_map f xs)
each_some P Q f h [] p = tt
each_some P Q f h (x ∷ xs) p = each_cons Q (f x) (filter_map f xs) (h x p.0) (each_some P Q f h xs p.1)

pub found_at : {X : Type 0} (P : X → Type 0) (b : Bool) (x : X) (o : Option X) → P x → IfSome o P → IfSome (cond b (Some x) o) P
found_at P true x o p q = p
found_at P false x o p q = q

pub found_one : {X : Type 0} (P : X → Type 0) (test : X → Bool) (xs : List X) → AllByRecursion P xs → IfSome (find test xs) P
found_one P test [] p = tt
found_one P test (x ∷ xs) p = found_at P (test x) x (find test xs) p.0 (found_one P test xs p.1)

pub map_or : {X Y : Type 0} (P : X → Type 0) (Q : Y → Type 0) (f : X → List Y) → ((x : X) → P x → AllByRecursion Q (f x)) → (o : Option X) → IfSome o P → AllByRecursion Q (option_map_or f o [])
map_or P Q f h None p = tt
map_or P Q f h (Some x) p = h x p

pub and_some : {X Y : Type 0} (P : X → Type 0) (Q : Y → Type 0) (f : X → Option Y) → ((x : X) → P x → IfSome (f x) Q) → (o : Option X) → IfSome o P → IfSome (option_and_then f o) Q
and_some P Q f h None p = tt
and_some P Q f h (Some x) p = h x p

pub map_some : {X Y : Type 0} (P : X → Type 0) (Q : Y → Type 0) (f : X → Y) → ((x : X) → P x → Q (f x)) → (o : Option X) → IfSome o P → IfSome (option_map f o) Q
map_some P Q f h None p = tt
map_some P Q f h (Some x) p = h x p

pub to_list : {X : Type 0} (P : X → Type 0) (o : Option X) → IfSome o P → AllByRecursion P (option_to_list o)
to_list P None p = tt
to_list P (Some x) p = (p, tt)

pub any_mapped : {X Y : Type 0} (f : X → Y) (test : Y → Bool) (xs : List X) → list_any (λ x. test (f x)) xs ≡ list_any test (map f xs)
any_mapped f test [] = refl
any_mapped f test (x ∷ xs) = ap (λ b. test (f x) || b) (any_mapped f test xs)
