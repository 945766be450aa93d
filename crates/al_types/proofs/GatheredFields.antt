-- Adding fields to others: the type of each name afterwards, and whether the names are distinct.
use Rattle.std.proofs.Common.{◌≡◌, ℕ, List, [], ◌∷◌, refl, sym, ap, ◌∙◌, Bool, true, false, Option, Some, None}
use Rattle.std.specs.Prelude.{if◌then◌else◌, is_some, not, ◌&&◌}
use Rattle.std.specs.Option.{option_or}
use Rattle.std.specs.Cmp.Lexicographic.{bytes_decides}
use Rattle.std.specs.Str.{bytes_eq}
use Rattle.al_base.specs.Names.{lower_case, same_name}
use Rattle.al_types.specs.FusedFields.{are_distinct}
use Rattle.al_types.specs.Puts.{TypedName, firsts, put_or_fuse, put_all, put_new}
use Rattle.al_types.specs.Types.{Type', Fields, Optional, Present, common_in, field_at, fuse_optional, fuse_type, has_field, optional}
use Rattle.al_types.specs.TypeParts.{common_type}
use Rattle.al_types.proofs.FuseLaws.{common_optional, last_turned, optional_assoc}
use Rattle.al_types.proofs.JoinedFields.{first_apart, has_field_at, has_same, nothing_at, others_apart, same_turned}

-- the type of the added field, if it has the name that is looked up
abbrev when : Bool → Type' → Option Type'
when b t = if b then Some t else None

common_none : (o : Option Type') → common_type o None ≡ o
common_none None = refl
common_none (Some t) = refl

-- ---- adding one field

-- the added field has the name of the first one
here_step : (there here : Bool) (t u : Type') (o : Option Type') → there ≡ here →
    (if there then Some (fuse_type t u) else o) ≡ common_type (if there then Some t else o) (when here u)
here_step true true t u o e = refl
here_step false false t u o e = sym (common_none o)
here_step true false t u o e = absurd cc
here_step false true t u o e = absurd cc

-- the added field has another name
apart_step : (there here : Bool) (t u : Type') (o more : Option Type') → (there ≡ true → here ≡ false) → more ≡ common_type o (when here u) →
    (if there then Some t else more) ≡ common_type (if there then Some t else o) (when here u)
apart_step false here t u o more h e = e
apart_step true true t u o more h e = absurd (cc (h refl))
apart_step true false t u o more h e = refl

put_step : (same there here : Bool) (n : List ℕ) (q p : TypedName) (qs more : List TypedName) →
    (same ≡ true → there ≡ here) → (same ≡ false → there ≡ true → here ≡ false) →
    there ≡ same_name q.0 n → field_at n more ≡ common_type (field_at n qs) (when here p.1) →
    field_at n (if same then (q.0, fuse_type q.1 p.1) ∷ qs else q ∷ more) ≡ common_type (field_at n (q ∷ qs)) (when here p.1)
put_step true there here n q p qs more h k is e =
    ap (λ b. if b then Some (fuse_type q.1 p.1) else field_at n qs) (sym is) ∙ here_step there here q.1 p.1 (field_at n qs) (h refl)
    ∙ ap (λ b. common_type (if b then Some q.1 else field_at n qs) (when here p.1)) is
put_step false there here n q p qs more h k is e =
    ap (λ b. if b then Some q.1 else field_at n more) (sym is) ∙ apart_step there here q.1 p.1 (field_at n qs) _ (k refl) e
    ∙ ap (λ b. common_type (if b then Some q.1 else field_at n qs) (when here p.1)) is

pub found_put : (ts : List TypedName) (p : TypedName) (n : List ℕ) →
    field_at n (put_or_fuse ts p) ≡ common_type (field_at n ts) (when (same_name p.0 n) p.1)
found_put [] p n = refl
found_put (q ∷ qs) p n =
    put_step (same_name q.0 p.0) (same_name q.0 n) (same_name p.0 n) n q p qs (put_or_fuse qs p) (λ s. ap (λ m. bytes_eq m (lower_case n)) ((bytes_decides _ _).0 s))
    (λ f s. ap (bytes_eq (lower_case p.0)) (sym ((bytes_decides _ _).0 s)) ∙ same_turned p.0 q.0 ∙ f) refl (found_put qs p n)

common_step : (b : Bool) (q p : TypedName) (qs more : List TypedName) → common_in more ≡ fuse_optional (common_in qs) (Present p.1) →
    common_in (if b then (q.0, fuse_type q.1 p.1) ∷ qs else q ∷ more) ≡ fuse_optional (common_in (q ∷ qs)) (Present p.1)
common_step true q p qs more e = last_turned (Present q.1) (Present p.1) (common_in qs)
common_step false q p qs more e =
    ap (fuse_optional (Present q.1)) e ∙ sym (optional_assoc (Present q.1) (common_in qs) (Present p.1))

-- what all fields have in common afterwards
pub common_put : (ts : List TypedName) (p : TypedName) → common_in (put_or_fuse ts p) ≡ fuse_optional (common_in ts) (Present p.1)
common_put [] p = refl
common_put (q ∷ qs) p = common_step (same_name q.0 p.0) q p qs (put_or_fuse qs p) (common_put qs p)

-- ---- adding several fields with distinct names

all_step : (b : Bool) (t : Type') (o more : Option Type') → (b ≡ true → more ≡ None) →
    common_type (common_type o (when b t)) more ≡ common_type o (if b then Some t else more)
all_step true t o more h = ap (common_type (common_type o (Some t))) (h refl) ∙ common_none (common_type o (Some t))
all_step false t o more h = ap (λ x. common_type x more) (common_none o)

found_all : (ts us : List TypedName) (n : List ℕ) → are_distinct us ≡ true →
    field_at n (put_all put_or_fuse ts us) ≡ common_type (field_at n ts) (field_at n us)
found_all ts [] n d = sym (common_none (field_at n ts))
found_all ts (p ∷ us) n d =
    let none : has_field p.0 us ≡ false = first_apart (has_field p.0 us) (are_distinct us) d in
    found_all (put_or_fuse ts p) us n (others_apart (has_field p.0 us) (are_distinct us) d)
    ∙ ap (λ o. common_type o (field_at n us)) (found_put ts p n)
    ∙ all_step (same_name p.0 n) p.1 (field_at n ts) (field_at n us)
    (λ s. nothing_at n us (has_same n p.0 us (sym ((bytes_decides _ _).0 s)) ∙ none))

-- the types of all names
abbrev pub found_in : Fields → List ℕ → Optional
found_in fs = λ n. optional (field_at n fs)

abbrev pub found_in_either : Fields → Fields → List ℕ → Optional
found_in_either fs gs = λ n. fuse_optional (found_in fs n) (found_in gs n)

-- The type of a name is what its types in both have in common.
pub found_in_both : (ts us : List TypedName) → are_distinct us ≡ true → found_in (put_all put_or_fuse ts us) ≡ found_in_either ts us
found_in_both ts us e =
    λ d n. (ap optional (found_all ts us n e) ∙ common_optional (field_at n ts) (field_at n us)) d

-- ---- only the first of equal names

or_none : (o : Option Type') → option_or o None ≡ o
or_none None = refl
or_none (Some t) = refl

first_step : (there here : Bool) (t u : Type') (o : Option Type') → there ≡ here → (if there then Some t else o) ≡ option_or (if there then Some t else o) (when here u)
first_step true here t u o e = refl
first_step false false t u o e = sym (or_none o)
first_step false true t u o e = absurd cc

later_step : (there : Bool) (t : Type') (o more w : Option Type') → more ≡ option_or o w → (if there then Some t else more) ≡ option_or (if there then Some t else o) w
later_step true t o more w e = refl
later_step false t o more w e = e

new_step : (same there here : Bool) (n : List ℕ) (q p : TypedName) (qs more : List TypedName) → (same ≡ true → there ≡ here) → there ≡ same_name q.0 n →
    field_at n more ≡ option_or (field_at n qs) (when here p.1) →
    field_at n (if same then q ∷ qs else q ∷ more) ≡ option_or (field_at n (q ∷ qs)) (when here p.1)
new_step true there here n q p qs more h is e =
    let o = field_at n qs in
    ap (λ b. if b then Some q.1 else o) (sym is) ∙ first_step there here q.1 p.1 o (h refl) ∙ ap (λ b. option_or (if b then Some q.1 else o) (when here p.1)) is
new_step false there here n q p qs more h is e =
    let o = field_at n qs in
    ap (λ b. if b then Some q.1 else field_at n more) (sym is) ∙ later_step there q.1 o _ (when here p.1) e
    ∙ ap (λ b. option_or (if b then Some q.1 else o) (when here p.1)) is

found_new : (ts : List TypedName) (p : TypedName) (n : List ℕ) →
    field_at n (put_new ts p) ≡ option_or (field_at n ts) (when (same_name p.0 n) p.1)
found_new [] p n = refl
found_new (q ∷ qs) p n =
    new_step (same_name q.0 p.0) (same_name q.0 n) (same_name p.0 n) n q p qs (put_new qs p) (λ s. ap (λ m. bytes_eq m (lower_case n)) ((bytes_decides _ _).0 s))
    refl (found_new qs p n)

or_step : (b : Bool) (t : Type') (o more : Option Type') → option_or (option_or o (when b t)) more ≡ option_or o (if b then Some t else more)
or_step true t None more = refl
or_step true t (Some u) more = refl
or_step false t None more = refl
or_step false t (Some u) more = refl

found_first : (ts us : List TypedName) (n : List ℕ) →
    field_at n (put_all put_new ts us) ≡ option_or (field_at n ts) (field_at n us)
found_first ts [] n = sym (or_none (field_at n ts))
found_first ts (p ∷ us) n =
    found_first (put_new ts p) us n ∙ ap (λ o. option_or o (field_at n us)) (found_new ts p n)
    ∙ or_step (same_name p.0 n) p.1 (field_at n ts) (field_at n us)

-- The first fields of each name give the same types as all fields.
pub firsts_found : (us : List TypedName) (n : List ℕ) → field_at n (firsts us) ≡ field_at n us
firsts_found us n = found_first [] us n

distinct_step : (same : Bool) (q : TypedName) (qs more : List TypedName) → are_distinct (q ∷ qs) ≡ true → (same ≡ false → has_field q.0 more ≡ false) →
    are_distinct more ≡ true → are_distinct (if same then q ∷ qs else q ∷ more) ≡ true
distinct_step true q qs more d h e = d
distinct_step false q qs more d h e = λ i. not (h refl i) && e i

new_distinct : (ts : List TypedName) (p : TypedName) → are_distinct ts ≡ true → are_distinct (put_new ts p) ≡ true
new_distinct [] p d = refl
new_distinct (q ∷ qs) p d =
    let none : has_field q.0 qs ≡ false = first_apart (has_field q.0 qs) (are_distinct qs) d in
    distinct_step (same_name q.0 p.0) q qs (put_new qs p) d
    (λ f. sym (has_field_at q.0 (put_new qs p)) ∙ ap is_some (found_new qs p q.0)
    ∙ ap (λ o. is_some (option_or o (when (same_name p.0 q.0) p.1))) (nothing_at q.0 qs none)
    ∙ ap (λ b. is_some (when b p.1)) (same_turned p.0 q.0 ∙ f))
    (new_distinct qs p (others_apart (has_field q.0 qs) (are_distinct qs) d))

all_distinct : (ts us : List TypedName) → are_distinct ts ≡ true → are_distinct (put_all put_new ts us) ≡ true
all_distinct ts [] d = d
all_distinct ts (p ∷ us) d = all_distinct (put_new ts p) us (new_distinct ts p d)

pub firsts_distinct : (us : List TypedName) → are_distinct (firsts us) ≡ true
firsts_distinct us = all_distinct [] us refl
