-- The fields of two objects as those of one: the type of each name, and what all fields have in common.
use Rattle.std.proofs.Common.{◌≡◌, ℕ, List, [], ◌∷◌, ◌++◌, refl, sym, ap, ◌∙◌, Bool, true, false, ◌||◌, Option, Some, None, arith}
use Rattle.std.proofs.Math.Bool.{or_assoc}
use Rattle.std.proofs.lemmas.Bool.Decides.{Decides-like, nat_tests, same_from_decides}
use Rattle.std.proofs.lemmas.Slice.Eq.{bytes_eq-Decides}
use Rattle.std.specs.Prelude.{if◌then◌else◌, is_some, not, ◌&&◌, option_map}
use Rattle.std.specs.Option.{option_or}
use Rattle.std.specs.Cmp.Lexicographic.{bytes_decides}
use Rattle.std.specs.Str.{bytes_eq}
use Rattle.al_base.specs.Names.{lower_case, same_name}
use Rattle.al_types.specs.Types.{Type', Fields, Optional, Absent, Present, common_in, field_at, fuse_optional}
use Rattle.al_types.specs.Types.{fuse_type, has_field, optional, parts_with}
use Rattle.al_types.specs.Fused.{fuse_parts}
use Rattle.al_types.specs.FusedFields.{are_distinct, both, fuse_fields, missing_fields, with_other}
use Rattle.al_types.specs.TypeParts.{common_type}
use Rattle.al_types.proofs.FuseLaws.{common_optional, last_turned, middle_turned, optional_assoc, optional_same}

-- ---- equal names

pub same_turned : (m n : List ℕ) → same_name m n ≡ same_name n m
same_turned m n =
    let back = bytes_eq-Decides (lower_case n) (lower_case m) in
    same_from_decides (same_name m n) (same_name n m) (bytes_eq-Decides (lower_case m) (lower_case n)) (Decides-like (same_name n m) sym sym back)

same_at : (m n : List ℕ) (fs : Fields) → lower_case m ≡ lower_case n → field_at m fs ≡ field_at n fs
same_at m n [] e = refl
same_at m n (f ∷ fs) e =
    ap (λ b. if b then Some f.1 else field_at m fs) (ap (bytes_eq (lower_case f.0)) e)
    ∙ ap (λ o. if same_name f.0 n then Some f.1 else o) (same_at m n fs e)

some_if : (b : Bool) (t : Type') (o : Option Type') → is_some (if b then Some t else o) ≡ b || is_some o
some_if true t o = refl
some_if false t o = refl

pub has_field_at : (n : List ℕ) (fs : Fields) → is_some (field_at n fs) ≡ has_field n fs
has_field_at n [] = refl
has_field_at n (f ∷ fs) = some_if (same_name f.0 n) f.1 (field_at n fs) ∙ ap (λ b. same_name f.0 n || b) (has_field_at n fs)

pub has_same : (m n : List ℕ) (fs : Fields) → lower_case m ≡ lower_case n → has_field m fs ≡ has_field n fs
has_same m n fs e = sym (has_field_at m fs) ∙ ap is_some (same_at m n fs e) ∙ has_field_at n fs

none_at : (o : Option Type') → is_some o ≡ false → o ≡ None
none_at None e = refl
none_at (Some t) e = absurd cc

-- A name without a field has no type.
pub nothing_at : (n : List ℕ) (fs : Fields) → has_field n fs ≡ false → field_at n fs ≡ None
nothing_at n fs h = none_at (field_at n fs) (has_field_at n fs ∙ h)

-- ---- the type of a name in both

join_step : (b : Bool) (t : Type') (o more : Option Type') →
    (if b then Some t else option_or o more) ≡ option_or (if b then Some t else o) more
join_step true t o more = refl
join_step false t o more = refl

at_joined : (n : List ℕ) (fs gs : Fields) → field_at n (fs ++ gs) ≡ option_or (field_at n fs) (field_at n gs)
at_joined n [] gs = refl
at_joined n (f ∷ fs) gs =
    ap (λ o. if same_name f.0 n then Some f.1 else o) (at_joined n fs gs) ∙ join_step (same_name f.0 n) f.1 (field_at n fs) (field_at n gs)

fused_step : (b : Bool) (t : Type') (o there here : Option Type') → (b ≡ true → there ≡ here) →
    (if b then Some (with_other t there) else option_map (λ u. with_other u here) o)
    ≡ option_map (λ u. with_other u here) (if b then Some t else o)
fused_step true t o there here e = ap (λ p. Some (with_other t p)) (e refl)
fused_step false t o there here e = refl

at_fused : (n : List ℕ) (fs gs : Fields) → field_at n (fuse_fields fs gs) ≡ option_map (λ t. with_other t (field_at n gs)) (field_at n fs)
at_fused n [] gs = refl
at_fused n (f ∷ fs) gs =
    ap (λ o. if same_name f.0 n then Some (with_other f.1 (field_at f.0 gs)) else o) (at_fused n fs gs)
    ∙ fused_step (same_name f.0 n) f.1 (field_at n fs) (field_at f.0 gs) (field_at n gs) (λ s. same_at f.0 n gs ((bytes_decides _ _).0 s))

missing_step : (same has : Bool) (t : Type') (o : Option Type') → (same ≡ true → has ≡ false) →
    (if has then o else (if same then Some t else o)) ≡ (if same then Some t else o)
missing_step true true t o h = absurd (cc (h refl))
missing_step false true t o h = refl
missing_step same false t o h = refl

at_if : (has : Bool) (n m : List ℕ) (t : Type') (fs : Fields) →
    field_at n (if has then fs else (m, t) ∷ fs) ≡ (if has then field_at n fs else (if same_name m n then Some t else field_at n fs))
at_if true n m t fs = refl
at_if false n m t fs = refl

-- the name has no field among the first ones
at_missing : (n : List ℕ) (fs gs : Fields) → has_field n fs ≡ false → field_at n (missing_fields fs gs) ≡ field_at n gs
at_missing n fs [] h = refl
at_missing n fs (g ∷ gs) h =
    at_if (has_field g.0 fs) n g.0 g.1 (missing_fields fs gs)
    ∙ ap (λ o. if has_field g.0 fs then o else (if same_name g.0 n then Some g.1 else o)) (at_missing n fs gs h)
    ∙ missing_step (same_name g.0 n) (has_field g.0 fs) g.1 (field_at n gs) (λ s. has_same g.0 n fs ((bytes_decides _ _).0 s) ∙ h)

both_step : (o more other : Option Type') → (is_some o ≡ false → more ≡ other) →
    option_or (option_map (λ u. with_other u other) o) more ≡ common_type o other
both_step None more other h = h refl
both_step (Some t) more None h = refl
both_step (Some t) more (Some u) h = refl

pub at_both : (n : List ℕ) (fs gs : Fields) → field_at n (both fs gs) ≡ common_type (field_at n fs) (field_at n gs)
at_both n fs gs =
    at_joined n (fuse_fields fs gs) (missing_fields fs gs)
    ∙ ap (λ o. option_or o (field_at n (missing_fields fs gs))) (at_fused n fs gs)
    ∙ both_step (field_at n fs) (field_at n (missing_fields fs gs)) (field_at n gs) (λ h. at_missing n fs gs (sym (has_field_at n fs) ∙ h))

-- ---- what the fields of both have in common

common_joined : (fs gs : Fields) → common_in (fs ++ gs) ≡ fuse_optional (common_in fs) (common_in gs)
common_joined [] gs = refl
common_joined (f ∷ fs) gs =
    ap (fuse_optional (Present f.1)) (common_joined fs gs) ∙ sym (optional_assoc (Present f.1) (common_in fs) (common_in gs))

-- the optional type, fused with another type if the flag is true
abbrev with_if : Bool → Optional → Type' → Optional
with_if b o u = if b then fuse_optional o (Present u) else o

fuse_none : (fs : Fields) → fuse_fields fs [] ≡ fs
fuse_none [] = refl
fuse_none (f ∷ fs) = ap (λ l. f ∷ l) (fuse_none fs)

-- This field has the name, and is fused with the type; if later ones have it as well, fusing twice is fusing once.
here_step : (more : Bool) (t u : Type') (o : Optional) →
    fuse_optional (Present (fuse_type t u)) (with_if more o u) ≡ fuse_optional (fuse_optional (Present t) o) (Present u)
here_step false t u o = last_turned (Present t) (Present u) o
here_step true t u o =
    middle_turned (Present t) (Present u) o (Present u) ∙ ap (fuse_optional (fuse_optional (Present t) o)) (optional_same (Present u))

there_step : (more : Bool) (t u : Type') (o : Optional) →
    fuse_optional (Present t) (with_if more o u) ≡ with_if more (fuse_optional (Present t) o) u
there_step false t u o = refl
there_step true t u o = sym (optional_assoc (Present t) o (Present u))

taken_step : (same more : Bool) (t u : Type') (found : Option Type') (o : Optional) → (same ≡ true → found ≡ None) →
    fuse_optional (Present (with_other t (if same then Some u else found))) (with_if more o u)
    ≡ with_if (same || more) (fuse_optional (Present (with_other t found)) o) u
taken_step true more t u found o e =
    here_step more t u o ∙ ap (λ p. fuse_optional (fuse_optional (Present (with_other t p)) o) (Present u)) (sym (e refl))
taken_step false more t u found o e = there_step more (with_other t found) u o

-- fusing fields with others, where the first of these has a name that the rest doesn't have
common_taken : (fs gs : Fields) (m : List ℕ) (u : Type') → has_field m gs ≡ false →
    common_in (fuse_fields fs ((m, u) ∷ gs)) ≡ with_if (has_field m fs) (common_in (fuse_fields fs gs)) u
common_taken [] gs m u h = refl
common_taken (f ∷ fs) gs m u h =
    ap (fuse_optional (Present (with_other f.1 (field_at f.0 ((m, u) ∷ gs))))) (common_taken fs gs m u h)
    ∙ ap (λ b. fuse_optional (Present (with_other f.1 (if b then Some u else field_at f.0 gs))) (with_if (has_field m fs) (common_in (fuse_fields fs gs)) u)) (same_turned m f.0)
    ∙ taken_step (same_name f.0 m) (has_field m fs) f.1 u (field_at f.0 gs) (common_in (fuse_fields fs gs))
    (λ s. nothing_at f.0 gs (has_same f.0 m gs ((bytes_decides _ _).0 s) ∙ h))

missing_taken : (has : Bool) (o : Optional) (m : List ℕ) (u : Type') (more : Fields) (whole : Optional) →
    fuse_optional o (common_in more) ≡ whole →
    fuse_optional (with_if has o u) (common_in (if has then more else (m, u) ∷ more)) ≡ fuse_optional whole (Present u)
missing_taken true o m u more whole e = last_turned o (Present u) (common_in more) ∙ ap (λ x. fuse_optional x (Present u)) e
missing_taken false o m u more whole e =
    sym (optional_assoc o (Present u) (common_in more)) ∙ last_turned o (Present u) (common_in more)
    ∙ ap (λ x. fuse_optional x (Present u)) e

-- The first of distinct fields isn't among the rest, and the rest is distinct.
pub first_apart : (has rest : Bool) → not has && rest ≡ true → has ≡ false
first_apart true rest e = absurd cc
first_apart false rest e = refl

pub others_apart : (has rest : Bool) → not has && rest ≡ true → rest ≡ true
others_apart true rest e = absurd cc
others_apart false rest e = e

fused_missing : (fs gs : Fields) → are_distinct gs ≡ true →
    fuse_optional (common_in (fuse_fields fs gs)) (common_in (missing_fields fs gs)) ≡ fuse_optional (common_in fs) (common_in gs)
fused_missing fs [] d = ap (λ x. fuse_optional (common_in x) Absent) (fuse_none fs)
fused_missing fs (g ∷ gs) d =
    ap (λ x. fuse_optional x (common_in (missing_fields fs (g ∷ gs)))) (common_taken fs gs g.0 g.1 (first_apart (has_field g.0 gs) (are_distinct gs) d))
    ∙ missing_taken (has_field g.0 fs) (common_in (fuse_fields fs gs)) g.0 g.1 (missing_fields fs gs) _
    (fused_missing fs gs (others_apart (has_field g.0 gs) (are_distinct gs) d))
    ∙ last_turned (common_in fs) (common_in gs) (Present g.1) ∙ optional_assoc (common_in fs) (Present g.1) (common_in gs)

common_both : (fs gs : Fields) → are_distinct gs ≡ true → common_in (both fs gs) ≡ fuse_optional (common_in fs) (common_in gs)
common_both fs gs d = common_joined (fuse_fields fs gs) (missing_fields fs gs) ∙ fused_missing fs gs d

-- The fields of both, with the fused type of other fields, are what both objects have in common.
pub joined_parts : (fs gs : Fields) (r s : Optional) → are_distinct gs ≡ true →
    parts_with (both fs gs) (fuse_optional r s) ≡ fuse_parts (parts_with fs r) (parts_with gs s)
joined_parts fs gs r s d =
    let all : fuse_optional (common_in (both fs gs)) (fuse_optional r s)
    ≡ fuse_optional (fuse_optional (common_in fs) r) (fuse_optional (common_in gs) s) =
    ap (λ x. fuse_optional x (fuse_optional r s)) (common_both fs gs d) ∙ middle_turned (common_in fs) (common_in gs) r s in
    λ i. (λ n. (ap optional (at_both n fs gs) ∙ common_optional (field_at n fs) (field_at n gs)) i, fuse_optional r s, all i)

-- ---- distinct names, one field after another

or_false : (a : Bool) → a || false ≡ a
or_false a = grind (arith, nat_tests)

has_more : (n m : List ℕ) (t : Type') (fs : Fields) → has_field n (fs ++ (m, t) ∷ []) ≡ has_field n fs || same_name m n
has_more n m t [] = or_false (same_name m n)
has_more n m t (f ∷ fs) = ap (λ b. same_name f.0 n || b) (has_more n m t fs) ∙ sym (or_assoc (same_name f.0 n) (has_field n fs) (same_name m n))

four_ands : (a b c d : Bool) → not (a || b) && (c && not d) ≡ (not a && c) && not (b || d)
four_ands a b c d = grind (arith, nat_tests)

-- Appending a field keeps the names distinct if none of them is its name.
pub distinct_more : (fs : Fields) (n : List ℕ) (t : Type') →
    are_distinct (fs ++ (n, t) ∷ []) ≡ are_distinct fs && not (has_field n fs)
distinct_more [] n t = refl
distinct_more (f ∷ fs) n t =
    ap (λ b. not b && are_distinct (fs ++ (n, t) ∷ [])) (has_more f.0 n t fs ∙ ap (λ b. has_field f.0 fs || b) (same_turned n f.0))
    ∙ ap (λ b. not (has_field f.0 fs || same_name f.0 n) && b) (distinct_more fs n t)
    ∙ four_ands (has_field f.0 fs) (same_name f.0 n) (are_distinct fs) (has_field n fs)
