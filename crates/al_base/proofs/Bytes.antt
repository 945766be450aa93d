-- Lemmas about what a sequence of writes appends.
use Rattle.std.proofs.lemmas.List.{take_more, take-append-drop, take_rest, take-append-le}
use Rattle.std.proofs.lemmas.Grind.{flat_map-append}
use Rattle.std.specs.List.{flat_map}
use Rattle.std.proofs.Common.{◌<◌, [], ◌∷◌, get_or, ◌≡◌, ℕ, ◌+◌, ◌-◌, ◌≤◌, List, ◌++◌, length, take, drop, sym, subst, ap, ◌∙◌, arith, Option, None, Some, length-append, append-nil}
use Rattle.std.proofs.Math.Seq.{take-add, take-length, take-append-add}
use Rattle.std.specs.Io.KnownBytes.{Appends, Keeps}
use Rattle.std.proofs.KnownBytes.{Appends-trans}
use Rattle.al_base.specs.Counted.{AppendsPrefix}

-- a prefix of length k, and then n bytes of the rest
pub Appends-more : (a b c : Option (List ℕ)) (xs : List ℕ) (k n : ℕ) → Appends a b (take k xs) → Appends b c (take n (take (length xs - k) (drop k xs))) → Appends a c (take (k + n) xs)
Appends-more a b c xs k n p q =
    let more : Appends b c (take n (drop k xs)) = subst (Appends b c) (ap (take n) (take_rest xs k)) q in
    subst (Appends a c) (sym (take-add k n xs)) (Appends-trans a b c (take k xs) (take n (drop k xs)) p more)

pub AppendsPrefix-none : (a b : Option (List ℕ)) (xs : List ℕ) → Keeps a b → AppendsPrefix a b xs
AppendsPrefix-none None b xs p = (0, omega arith, tt)
AppendsPrefix-none (Some x) None xs p = absurd p
AppendsPrefix-none (Some x) (Some y) xs p = (0, omega arith, p ∙ sym (append-nil x))

pub AppendsPrefix-all : (a b : Option (List ℕ)) (xs : List ℕ) → Appends a b xs → AppendsPrefix a b xs
AppendsPrefix-all a b xs p = (length xs, omega arith, subst (Appends a b) (sym (take-length xs)) p)

-- a prefix of xs is a prefix of xs ++ ys
pub AppendsPrefix-wider : (a b : Option (List ℕ)) (xs ys : List ℕ) → AppendsPrefix a b xs → AppendsPrefix a b (xs ++ ys)
AppendsPrefix-wider a b xs ys w =
    let within : w.0 ≤ length xs = w.1 in
    (w.0, omega (arith, length-append xs ys), subst (Appends a b) (sym (take-append-le w.0 xs ys w.1)) w.2)

-- all of xs, and then a prefix of ys
pub AppendsPrefix-after : (a b c : Option (List ℕ)) (xs ys : List ℕ) → Appends a b xs → AppendsPrefix b c ys → AppendsPrefix a c (xs ++ ys)
AppendsPrefix-after a b c xs ys p w =
    let within : w.0 ≤ length ys = w.1 in
    (length xs + w.0, omega (arith, length-append xs ys), subst (Appends a c) (sym (take-append-add xs ys w.0)) (Appends-trans a b c xs (take w.0 ys) p w.2))

-- all parts before part i, and then a prefix of part i
pub AppendsPrefix-part : {X : Type 0} (f : X → List ℕ) (parts : List X) (i : ℕ) (d : X) (a b c : Option (List ℕ)) → i < length parts
    → Appends a b (flat_map f (take i parts)) → AppendsPrefix b c (f (get_or parts i d)) → AppendsPrefix a c (flat_map f parts)
AppendsPrefix-part {X} f parts i d a b c h p w =
    let x : X = get_or parts i d in
    let more : take (i + 1) parts ≡ take i parts ++ x ∷ [] = take_more parts i d h in
    let whole : parts ≡ (take i parts ++ x ∷ []) ++ drop (i + 1) parts = sym (take-append-drop (i + 1) parts) ∙ ap (λ l. l ++ drop (i + 1) parts) more in
    let split : flat_map f parts ≡ (flat_map f (take i parts) ++ f x) ++ flat_map f (drop (i + 1) parts) =
    ap (flat_map f) whole ∙ flat_map-append f (take i parts ++ x ∷ []) (drop (i + 1) parts)
    ∙ ap (λ l. l ++ flat_map f (drop (i + 1) parts))
    (flat_map-append f (take i parts) (x ∷ []) ∙ ap (λ l. flat_map f (take i parts) ++ l) (append-nil (f x))) in
    subst (AppendsPrefix a c) (sym split) (AppendsPrefix-wider a c (flat_map f (take i parts) ++ f x) _ (AppendsPrefix-after a b c (flat_map f (take i parts)) (f x) p w))

-- What a loop has appended that writes one part for each element; x is the next element.
module _ {X : Type 0} (f : X → List ℕ) (parts : List X) (i : ℕ) (x : X) (within : i < length parts) (read : x ≡ get_or parts i x)
    (a b c : Option (List ℕ)) (so_far : Appends a b (flat_map f (take i parts))) where
  -- after one more part
  pub Appends-next : Appends b c (f x) → Appends a c (flat_map f (take (i + 1) parts))
  Appends-next more =
      let whole : flat_map f (take (i + 1) parts) ≡ flat_map f (take i parts) ++ f x =
      ap (flat_map f) (take_more parts i x within ∙ ap (λ y. take i parts ++ y ∷ []) (sym read)) ∙ flat_map-append f (take i parts) (x ∷ [])
      ∙ ap (λ l. flat_map f (take i parts) ++ l) (append-nil (f x)) in
      subst (Appends a c) (sym whole) (Appends-trans a b c (flat_map f (take i parts)) (f x) so_far more)
