-- The first field of each name: all fields if the names are distinct, and with one more field appended.
use Rattle.std.proofs.Common.{◌≡◌, ◌+◌, ℕ, List, [], ◌∷◌, ◌++◌, append_assoc, append-nil, refl, sym, ap, ◌∙◌, Bool, true, false, ◌||◌, Option, Some, None, option_map}
use Rattle.std.proofs.Math.Bool.{or_assoc}
use Rattle.std.proofs.lemmas.Bool.{or_parts}
use Rattle.std.specs.Prelude.{if◌then◌else◌, is_none, is_some, not}
use Rattle.al_base.specs.Names.{same_name}
use Rattle.al_types.specs.FusedFields.{are_distinct}
use Rattle.al_types.specs.Indexes.{name_at}
use Rattle.al_types.specs.Puts.{TypedName, firsts, put_all, put_new}
use Rattle.al_types.specs.Types.{Type', field_at, has_field}
use Rattle.al_types.proofs.GatheredFields.{firsts_found}
use Rattle.al_types.proofs.JoinedFields.{first_apart, has_field_at, others_apart, same_turned}
use Rattle.al_types.proofs.Puts.{put_new_after, put_new_old}

-- ---- the position of a name, and whether a field has it

place_step : (b : Bool) (t : Type') (o : Option ℕ) (f : Option Type') → is_none o ≡ is_none f →
    is_none (if b then Some 0 else option_map (λ i. i + 1) o) ≡ is_none (if b then Some t else f)
place_step true t o f e = refl
place_step false t None f e = e
place_step false t (Some i) f e = e

pub none_at : (ts : List TypedName) (n : List ℕ) → is_none (name_at ts n) ≡ is_none (field_at n ts)
none_at [] n = refl
none_at (q ∷ qs) n = place_step (same_name q.0 n) q.1 (name_at qs n) (field_at n qs) (none_at qs n)

-- a name is missing among the first fields of each name if and only if it is missing among all
pub none_first : (ts : List TypedName) (n : List ℕ) → is_none (name_at (firsts ts) n) ≡ is_none (name_at ts n)
none_first ts n = none_at (firsts ts) n ∙ ap is_none (firsts_found ts n) ∙ sym (none_at ts n)

not_some : (f : Option Type') → is_none f ≡ not (is_some f)
not_some None = refl
not_some (Some t) = refl

pub none_named : (ts : List TypedName) (n : List ℕ) → is_none (name_at ts n) ≡ not (has_field n ts)
none_named ts n = none_at ts n ∙ not_some (field_at n ts) ∙ ap not (has_field_at n ts)

-- whether a search found nothing, as a test
pub none_if : (o q : Option ℕ) (b r : Bool) → o ≡ q → is_some o ≡ not b → b ≡ r → is_none q ≡ r
none_if None q true r e s h = ap is_none (sym e) ∙ h
none_if None q false r e s h = absurd cc
none_if (Some i) q true r e s h = absurd cc
none_if (Some i) q false r e s h = ap is_none (sym e) ∙ h

-- ---- one more field

put_last : (acc ts : List TypedName) (p : TypedName) → put_all put_new acc (ts ++ p ∷ []) ≡ put_new (put_all put_new acc ts) p
put_last acc [] p = refl
put_last acc (q ∷ ts) p = put_last (put_new acc q) ts p

pub firsts_more : (ts : List TypedName) (p : TypedName) → firsts (ts ++ p ∷ []) ≡ put_new (firsts ts) p
firsts_more ts p = put_last [] ts p

-- its name is new
pub firsts_new : (ts : List TypedName) (p : TypedName) → is_none (name_at ts p.0) ≡ true → firsts (ts ++ p ∷ []) ≡ firsts ts ++ p ∷ []
firsts_new ts p e = firsts_more ts p ∙ put_new_after (firsts ts) p (none_first ts p.0 ∙ e)

-- its name is there already
pub firsts_old : (ts : List TypedName) (p : TypedName) → is_none (name_at ts p.0) ≡ false → firsts (ts ++ p ∷ []) ≡ firsts ts
firsts_old ts p e = firsts_more ts p ∙ put_new_old (firsts ts) p (none_first ts p.0 ∙ e)

-- ---- distinct fields

-- a name is in appended lists of fields if it is in one of them
has_after : (n : List ℕ) (ts us : List TypedName) → has_field n (ts ++ us) ≡ has_field n ts || has_field n us
has_after n [] us = refl
has_after n (q ∷ ts) us = ap (λ b. same_name q.0 n || b) (has_after n ts us) ∙ sym (or_assoc (same_name q.0 n) (has_field n ts) (has_field n us))

-- a field of distinct fields has none of the names before it
last_apart : (ts us : List TypedName) (p : TypedName) → are_distinct (ts ++ p ∷ us) ≡ true → has_field p.0 ts ≡ false
last_apart [] us p d = refl
last_apart (q ∷ ts) us p d =
    let whole = (ts ++ p ∷ us) in
    let none = sym (has_after q.0 ts (p ∷ us)) ∙ first_apart (has_field q.0 whole) (are_distinct whole) d in
    let after = (or_parts (has_field q.0 ts) (has_field q.0 (p ∷ us)) none).1 in
    let other = (or_parts (same_name p.0 q.0) (has_field q.0 us) after).0 in
    let more = last_apart ts us p (others_apart (has_field q.0 whole) (are_distinct whole) d) in
    λ i. (same_turned q.0 p.0 ∙ other) i || more i

all_kept : (acc ts : List TypedName) → are_distinct (acc ++ ts) ≡ true → put_all put_new acc ts ≡ acc ++ ts
all_kept acc [] d = sym (append-nil acc)
all_kept acc (p ∷ ts) d =
    let new : put_new acc p ≡ acc ++ p ∷ [] = put_new_after acc p (none_named acc p.0 ∙ ap not (last_apart acc ts p d)) in
    let same : (acc ++ p ∷ []) ++ ts ≡ acc ++ p ∷ ts = append_assoc acc (p ∷ []) ts in
    ap (λ xs. put_all put_new xs ts) new ∙ all_kept (acc ++ p ∷ []) ts (ap are_distinct same ∙ d) ∙ same

pub firsts_same : (ts : List TypedName) → are_distinct ts ≡ true → firsts ts ≡ ts
firsts_same ts d = all_kept [] ts d
