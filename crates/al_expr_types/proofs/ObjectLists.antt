-- Lists of objects: one more object, and a part of a list as one object.
use Rattle.std.proofs.Common.{◌≡◌, ◌+◌, ◌<◌, ◌≤◌, ℕ, List, [], ◌∷◌, ◌++◌, map, take, length, get_or, true, sym, ap, ◌∙◌}
use Rattle.std.proofs.lemmas.Bool.{and_parts}
use Rattle.std.proofs.lemmas.List.{map-append, take_more}
use Rattle.std.proofs.lemmas.List.Folds.{list_all-append}
use Rattle.std.specs.Prelude.{◌&&◌, nat_lt}
use Rattle.al_types.specs.Types.{Parts}
use Rattle.al_types.specs.Fused.{fuse_parts, fuse_all}
use Rattle.al_types.proofs.FuseLaws.{fused_both, parts_assoc}
use Rattle.al_expr_types.specs.Types.{are_below}
use Rattle.al_expr_types.proofs.Below.{all_more, has_itself, numbers_same}
use Rattle.al_expr_types.proofs.Fusing.{fused_push}

-- what is below a bound is below a higher one
pub below_wider : (m n : ℕ) (ns : List ℕ) → m ≤ n → are_below m ns ≡ true → are_below n ns ≡ true
below_wider m n ns le h = (numbers_same [] [] m n (has_itself [] m n le) ns h).0

-- the next object of a list, after those before it were fused with others
pub all_next : (f : ℕ → Parts) (start so_far new : Parts) (ns : List ℕ) (i n : ℕ) → i < length ns → n ≡ get_or ns i n →
    so_far ≡ fuse_parts start (fuse_all (map f (take i ns))) → new ≡ fuse_parts so_far (f n) → new ≡ fuse_parts start (fuse_all (map f (take (i + 1) ns)))
all_next f start so_far new ns i n lt e old step =
    let next = ap (λ l. fuse_all (map f l)) (take_more ns i n lt ∙ ap (λ y. take i ns ++ y ∷ []) (sym e)) ∙ fused_push f (take i ns) n in
    step ∙ ap (λ p. fuse_parts p (f n)) old ∙ parts_assoc start (fuse_all (map f (take i ns))) (f n) ∙ ap (fuse_parts start) (sym next)

-- and after those before it were fused
pub some_next : (f : ℕ → Parts) (so_far new : Parts) (ns : List ℕ) (i n : ℕ) → i < length ns → n ≡ get_or ns i n →
    so_far ≡ fuse_all (map f (take i ns)) → new ≡ fuse_parts so_far (f n) → new ≡ fuse_all (map f (take (i + 1) ns))
some_next f so_far new ns i n lt e old step =
    let next = ap (λ l. fuse_all (map f l)) (take_more ns i n lt ∙ ap (λ y. take i ns ++ y ∷ []) (sym e)) ∙ fused_push f (take i ns) n in
    step ∙ ap (λ p. fuse_parts p (f n)) old ∙ sym next

-- ---- a list in three parts

fused_two : (f : ℕ → Parts) (ns ms : List ℕ) → fuse_all (map f (ns ++ ms)) ≡ fuse_parts (fuse_all (map f ns)) (fuse_all (map f ms))
fused_two f ns ms = ap fuse_all (map-append f ns ms) ∙ fused_both (map f ns) (map f ms)

two_below : (k : ℕ) (ns ms : List ℕ) → are_below k (ns ++ ms) ≡ true → (are_below k ns ≡ true) × (are_below k ms ≡ true)
two_below k ns ms h = and_parts (are_below k ns) (are_below k ms) (sym (list_all-append (λ m. nat_lt m k) ns ms) ∙ h)

pub three_below : (k : ℕ) (all front others middle last : List ℕ) → all ≡ front ++ others → others ≡ middle ++ last → are_below k all ≡ true →
    (are_below k front ≡ true) × (are_below k middle ≡ true) × (are_below k last ≡ true)
three_below k all front others middle last e f h =
    let outer = two_below k front others (sym (ap (are_below k) e) ∙ h) in
    let inner = two_below k middle last (sym (ap (are_below k) f) ∙ outer.1) in
    (outer.0, inner.0, inner.1)

-- the middle part as one object `n`, where `g` means the same as `f` on the others
pub middle_as_one : (f g : ℕ → Parts) (all front others middle last new : List ℕ) (n : ℕ) → all ≡ front ++ others → others ≡ middle ++ last →
    map g front ≡ map f front → map g last ≡ map f last → g n ≡ fuse_all (map f middle) → new ≡ (front ++ n ∷ []) ++ last → fuse_all (map g new) ≡ fuse_all (map f all)
middle_as_one f g all front others middle last new n e e2 fronts lasts is made =
    let first = fused_push g front n ∙ (λ d. fuse_parts (fuse_all (fronts d)) (is d)) in
    ap (λ l. fuse_all (map g l)) made ∙ fused_two g (front ++ n ∷ []) last ∙ (λ d. fuse_parts (first d) (fuse_all (lasts d)))
    ∙ parts_assoc (fuse_all (map f front)) (fuse_all (map f middle)) (fuse_all (map f last))
    ∙ ap (fuse_parts (fuse_all (map f front))) (sym (fused_two f middle last) ∙ ap (λ l. fuse_all (map f l)) (sym e2))
    ∙ sym (fused_two f front others) ∙ ap (λ l. fuse_all (map f l)) (sym e)

pub middle_below : (k : ℕ) (front last new : List ℕ) (n : ℕ) → are_below k front ≡ true → are_below k last ≡ true → nat_lt n k ≡ true →
    new ≡ (front ++ n ∷ []) ++ last → are_below k new ≡ true
middle_below k front last new n a b h made =
    ap (are_below k) made ∙ list_all-append (λ m. nat_lt m k) (front ++ n ∷ []) last ∙ (λ d. all_more (λ m. nat_lt m k) front n a h d && b d)
