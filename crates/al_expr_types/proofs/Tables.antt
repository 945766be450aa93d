-- Tables of objects: appending one leaves those before it as they are, and each means what its definition says.
use Rattle.std.proofs.Common.{◌≡◌, ◌+◌, ◌<◌, ℕ, List, [], ◌∷◌, ◌++◌, length, get_or, zero, suc, Bool, true, false, refl, sym, ap, ◌∙◌, arith, append_assoc, append-nil}
use Rattle.std.proofs.lemmas.List.{get_or_at, length-append}
use Rattle.std.proofs.lemmas.Bool.{and_parts}
use Rattle.std.specs.Prelude.{◌&&◌, if◌then◌else◌}
use Rattle.al_base.proofs.Growing.{begins_same}
use Rattle.al_base.specs.Growth.{BeginsWith}
use Rattle.al_types.specs.Types.{Parts}
use Rattle.al_expr_types.specs.Types.{are_in_order, is_object_below, no_parts, object_in, object_parts, parts_after, parts_of_all}
use Rattle.al_expr_types.specs.declared.objects.Object.{Object}
use Rattle.al_expr_types.proofs.Below.{has_longer, object_same}

-- the parts of an appended table
pub after_append : (ms : List Parts) (xs ys : List Object) → parts_after ms (xs ++ ys) ≡ parts_after ms xs ++ parts_after (ms ++ parts_after ms xs) ys
after_append ms [] ys = ap (λ l. parts_after l ys) (sym (append-nil ms))
after_append ms (x ∷ xs) ys =
    let p : Parts = object_parts ms x in
    let more : List Parts = parts_after (ms ++ p ∷ []) xs in
    ap (λ l. p ∷ l) (after_append (ms ++ p ∷ []) xs ys ∙ ap (λ l. more ++ parts_after l ys) (append_assoc ms (p ∷ []) more))

pub length_after : (ms : List Parts) (os : List Object) → length (parts_after ms os) ≡ length os
length_after ms [] = refl
length_after ms (o ∷ os) = ap suc (length_after (ms ++ object_parts ms o ∷ []) os)

-- appending one object
pub one_more : (os : List Object) (o : Object) → parts_of_all (os ++ o ∷ []) ≡ parts_of_all os ++ object_parts (parts_of_all os) o ∷ []
one_more os o = after_append [] os (o ∷ [])

pub number_of_more : (ms : List Parts) (p : Parts) (n : ℕ) → length ms ≡ n → object_in (ms ++ p ∷ []) n ≡ p
number_of_more ms p n e = get_or_at ms p [] no_parts n e

-- ---- objects in order

one_longer : (ms : List Parts) (p : Parts) → length (ms ++ p ∷ []) ≡ suc (length ms)
one_longer ms p = length-append ms (p ∷ []) ∙ omega arith

order_more : (n m : ℕ) (os : List Object) (o : Object) → are_in_order n os ≡ true → m ≡ n + length os → is_object_below m o ≡ true →
    are_in_order n (os ++ o ∷ []) ≡ true
order_more n m [] o h e k = let same : n ≡ m = omega (arith, e) in ap (λ j. is_object_below j o && true) same ∙ ap (λ b. b && true) k
order_more n m (x ∷ os) o h e k =
    let both = and_parts (is_object_below n x) (are_in_order (suc n) os) h in
    λ d. both.0 d && order_more (suc n) m os o both.1 (omega (arith, e)) k d

-- ---- each object refers only to those before it, and its number means what the object does

read_after : (ms : List Parts) (n m : ℕ) (os : List Object) (i : ℕ) (o : Object) → n ≡ length ms → m ≡ n + i → are_in_order n os ≡ true → i < length os → o ≡ get_or os i o →
    (is_object_below m o ≡ true) × (get_or (parts_after ms os) i no_parts ≡ object_parts (ms ++ parts_after ms os) o)
read_after ms n m [] i o len is h lt e = absurd (omega (arith, lt))
read_after ms n m (x ∷ os) zero o len is h lt e =
    let p : Parts = object_parts ms x in
    let more : List Parts = p ∷ parts_after (ms ++ p ∷ []) os in
    let below = (and_parts (is_object_below n x) (are_in_order (suc n) os) h).0 in
    let at : m ≡ n = omega (arith, is) in (
      (λ d. is_object_below (at d) (e d)) ∙ below,
      sym (object_same (ms ++ more) ms n n (has_longer ms more n n (omega (arith, len)) (omega arith)) x below).1 ∙ ap (object_parts (ms ++ more)) (sym e),
    )
read_after ms n m (x ∷ os) (suc i) o len is h lt e =
    let p : Parts = object_parts ms x in
    let after = (and_parts (is_object_below n x) (are_in_order (suc n) os) h).1 in
    let later = read_after (ms ++ p ∷ []) (suc n) m os i o (ap suc len ∙ sym (one_longer ms p)) (omega (arith, is)) after (omega (arith, lt)) e in
    (later.0, later.1 ∙ ap (λ l. object_parts l o) (append_assoc ms (p ∷ []) (parts_after (ms ++ p ∷ []) os)))

pub read : (os : List Object) (i : ℕ) (o : Object) → are_in_order 0 os ≡ true → i < length os → o ≡ get_or os i o →
    (is_object_below i o ≡ true) × (object_in (parts_of_all os) i ≡ object_parts (parts_of_all os) o)
read os i o h lt e = read_after [] 0 i os i o refl (omega arith) h lt e

-- ---- where allocation may fail

pub grown_if : (ok : Bool) (new old : List Object) (o : Object) → new ≡ (if ok then old ++ o ∷ [] else old) → are_in_order 0 old ≡ true →
    is_object_below (length old) o ≡ true → (are_in_order 0 new ≡ true) × BeginsWith (parts_of_all new) (parts_of_all old)
grown_if true new old o e h k =
    (ap (are_in_order 0) e ∙ order_more 0 (length old) old o h (omega arith) k, record { more = object_parts (parts_of_all old) o ∷ []; is = ap parts_of_all e ∙ one_more old o })
grown_if false new old o e h k = (ap (are_in_order 0) e ∙ h, begins_same (parts_of_all old) (parts_of_all new) (ap parts_of_all e))
