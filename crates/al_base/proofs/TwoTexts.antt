-- Two texts kept in one string, and the order of lists of at most two texts.
use Rattle.std.proofs.Common.{◌≡◌, ◌∙◌, ℕ, List, [], ◌∷◌, ◌++◌, length, map, take, drop, ap, refl, Ordering, Less, Equal, Greater}
use Rattle.std.proofs.Common.{Bor, IsCharBoundary, IsUtf8, Option, None, Some, nat_cmp, slice_get, take_at, drop_at}
use Rattle.std.proofs.lemmas.List.{drop-map, take-map}
use Rattle.std.proofs.lemmas.Str.{IsCharBoundary-at_seam}
use Rattle.std.specs.Cmp.Lexicographic.{slice_cmp}
use Rattle.std.specs.Option.{option_cmp, option_copied}
use Rattle.std.specs.Ordering.{MatchOrdering, ordering_then}
use Rattle.al_base.specs.Orders.{args_cmp}
use Rattle.al_base.specs.Printable.{printable, printable_byte}

-- The end of the first text is a character boundary of the joined text.
pub cut_between : (text first second : List ℕ) → text ≡ first ++ second → IsUtf8 second → IsCharBoundary text (length first)
cut_between text first second is valid = IsCharBoundary-at_seam text first second is valid

-- Splitting the joined text there gives both texts back.
pub parts_of : (text first second : List ℕ) → text ≡ first ++ second
    → take (length first) text ∷ drop (length first) text ∷ [] ≡ first ∷ second ∷ []
parts_of text first second is =
    rw (ap (take (length first)) is ∙ take_at first second (length first) refl, ap (drop (length first)) is ∙ drop_at first second (length first) refl) refl

-- The parts of a text as they are printed are those of the text as it is printed.
pub parts_printed : (at : ℕ) (text : List ℕ) → map printable (take at text ∷ drop at text ∷ []) ≡ take at (printable text) ∷ drop at (printable text) ∷ []
parts_printed at text = rw (take-map printable_byte at text, drop-map printable_byte at text) refl

pub parts_printable : (at : ℕ) (text : List ℕ) → printable text ≡ text → map printable (take at text ∷ drop at text ∷ []) ≡ take at text ∷ drop at text ∷ []
parts_printable at text plain = parts_printed at text ∙ ap (λ t. take at t ∷ drop at t ∷ []) plain

-- ---- lists of at most two texts compare by the first and then by the second

abbrev pub compare : Option (List ℕ) → Option (List ℕ) → Ordering
compare a b = option_cmp (slice_cmp nat_cmp) a b

then_equal : (r : Ordering) → r ≡ ordering_then r Equal
then_equal Less = refl
then_equal Equal = refl
then_equal Greater = refl

pub copied_cmp : (a b : Option (Bor (List ℕ))) → option_cmp (λ x y. slice_cmp nat_cmp x.now y.now) a b ≡ compare (option_copied a) (option_copied b)
copied_cmp None None = refl
copied_cmp None (Some y) = refl
copied_cmp (Some x) None = refl
copied_cmp (Some x) (Some y) = refl

-- an order, or another one if it is equal
pub then_by : (first result second : Ordering) (Called : Type 0) → MatchOrdering first (result ≡ Less) Called (result ≡ Greater) → (Called → result ≡ second)
    → result ≡ ordering_then first second
then_by Less result second Called h by = h
then_by Equal result second Called h by = by h
then_by Greater result second Called h by = h

-- lists of at most one text
one_cmp : (a b : List (List ℕ)) → slice_get a 1 ≡ None → slice_get b 1 ≡ None → compare (slice_get a 0) (slice_get b 0) ≡ args_cmp a b
one_cmp [] [] p q = refl
one_cmp [] (y ∷ ys) p q = refl
one_cmp (x ∷ xs) [] p q = refl
one_cmp (x ∷ []) (y ∷ []) p q = then_equal (slice_cmp nat_cmp x y)
one_cmp (x ∷ []) (y ∷ z ∷ ys) p q = absurd cc
one_cmp (x ∷ z ∷ xs) (y ∷ ys) p q = absurd cc

pub two_cmp : (a b : List (List ℕ)) → slice_get a 2 ≡ None → slice_get b 2 ≡ None
    → ordering_then (compare (slice_get a 0) (slice_get b 0)) (compare (slice_get a 1) (slice_get b 1)) ≡ args_cmp a b
two_cmp [] [] p q = refl
two_cmp [] (y ∷ ys) p q = refl
two_cmp (x ∷ xs) [] p q = refl
two_cmp (x ∷ xs) (y ∷ ys) p q = ap (ordering_then (slice_cmp nat_cmp x y)) (one_cmp xs ys p q)
