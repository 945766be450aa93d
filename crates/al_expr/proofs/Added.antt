-- Adding fields to an object, one after another.
use Rattle.std.proofs.Common.{◌≡◌, ℕ, List, [], ◌∷◌, ◌++◌, refl, sym, ap, ◌∙◌, Bool, true, false, Some, None}
use Rattle.std.specs.Prelude.{if◌then◌else◌, is_none, is_some, not, ◌&&◌}
use Rattle.al_base.specs.Names.{same_name}
use Rattle.al_types.specs.FusedFields.{are_distinct}
use Rattle.al_types.specs.Indexes.{name_at}
use Rattle.al_types.specs.TypeParts.{common_type}
use Rattle.al_types.specs.Puts.{TypedName, firsts, put_or_fuse}
use Rattle.al_types.specs.Fused.{fuse_parts}
use Rattle.al_types.specs.Types.{Optional, Absent, Present, Parts, common_in, field_at, fuse_optional, fuse_type, has_field, optional, parts_with}
use Rattle.al_types.proofs.FuseLaws.{common_optional, last_turned, nothing_last, optional_assoc, parts_assoc}
use Rattle.al_types.proofs.GatheredFields.{common_put, found_put}
use Rattle.al_types.proofs.JoinedFields.{first_apart, has_field_at, nothing_at, others_apart, same_turned}
use Rattle.al_types.proofs.Puts.{put_after}
use Rattle.al_expr_types.proofs.NameIndexes.{none_there}
use Rattle.al_expr.specs.Trees.{field_parts, listed_parts}
use Rattle.al_expr.proofs.Firsts.{firsts_more, firsts_old, none_first}

-- ---- adding one field

pub parts_put : (ts : List TypedName) (p : TypedName) (r : Optional) → parts_with (put_or_fuse ts p) r ≡ fuse_parts (parts_with ts r) (field_parts p)
parts_put ts p r =
    let at : (n : List ℕ) → optional (field_at n (put_or_fuse ts p)) ≡ fuse_optional (optional (field_at n ts)) (optional (field_at n (p ∷ []))) =
    λ n. ap optional (found_put ts p n) ∙ common_optional (field_at n ts) (field_at n (p ∷ [])) in
    let all : fuse_optional (common_in (put_or_fuse ts p)) r ≡ fuse_optional (fuse_optional (common_in ts) r) (Present p.1) =
    ap (λ o. fuse_optional o r) (common_put ts p) ∙ last_turned (common_in ts) (Present p.1) r in
    λ d. (λ n. at n d, sym (nothing_last r) d, all d)

distinct_if : (same : Bool) (q p : TypedName) (qs more : List TypedName) → are_distinct (q ∷ qs) ≡ true → (same ≡ false → has_field q.0 more ≡ false) →
    are_distinct more ≡ true → are_distinct (if same then (q.0, fuse_type q.1 p.1) ∷ qs else q ∷ more) ≡ true
distinct_if true q p qs more d h e = d
distinct_if false q p qs more d h e = λ i. not (h refl i) && e i

pub put_distinct : (ts : List TypedName) (p : TypedName) → are_distinct ts ≡ true → are_distinct (put_or_fuse ts p) ≡ true
put_distinct [] p d = refl
put_distinct (q ∷ qs) p d =
    let none : has_field q.0 qs ≡ false = first_apart (has_field q.0 qs) (are_distinct qs) d in
    distinct_if (same_name q.0 p.0) q p qs (put_or_fuse qs p) d
    (λ f. sym (has_field_at q.0 (put_or_fuse qs p)) ∙ ap is_some (found_put qs p q.0)
    ∙ ap (λ o. is_some (common_type o (field_at q.0 (p ∷ [])))) (nothing_at q.0 qs none)
    ∙ ap (λ b. is_some (if b then Some p.1 else None)) (same_turned p.0 q.0 ∙ f))
    (put_distinct qs p (others_apart (has_field q.0 qs) (are_distinct qs) d))

-- ---- fields one after another

-- the first field with its name
pub added_first : (ts : List TypedName) (p : TypedName) (start old new : Parts) → is_none (name_at ts p.0) ≡ true →
    old ≡ fuse_parts start (listed_parts ts Absent) → new ≡ fuse_parts old (field_parts p) → new ≡ fuse_parts start (listed_parts (ts ++ p ∷ []) Absent)
added_first ts p start old new first was is =
    let none = none_there (name_at (firsts ts) p.0) (sym (none_first ts p.0 ∙ first)) in
    is ∙ ap (λ q. fuse_parts q (field_parts p)) was ∙ parts_assoc start (listed_parts ts Absent) (field_parts p)
    ∙ ap (fuse_parts start) (sym (parts_put (firsts ts) p Absent) ∙ ap (λ us. parts_with us Absent) (put_after (firsts ts) p none ∙ sym (firsts_more ts p)))

-- a field whose name came before
pub added_later : (ts : List TypedName) (p : TypedName) (start old : Parts) → is_none (name_at ts p.0) ≡ false →
    old ≡ fuse_parts start (listed_parts ts Absent) → old ≡ fuse_parts start (listed_parts (ts ++ p ∷ []) Absent)
added_later ts p start old later was = was ∙ ap (λ us. fuse_parts start (parts_with us Absent)) (sym (firsts_old ts p later))

-- no field
pub added_none : (start : Parts) → start ≡ fuse_parts start (listed_parts [] Absent)
added_none start = λ d. (λ n. sym (nothing_last (start.0 n)) d, sym (nothing_last start.1) d, sym (nothing_last start.2) d)

-- ---- the type of other fields

-- an object, and a type of other fields fused with it
pub with_rest : (p : Parts) (ts : List TypedName) (r s : Optional) → p ≡ parts_with ts r → parts_with ts (fuse_optional r s) ≡ fuse_parts p (parts_with [] s)
with_rest p ts r s e =
    (λ d. (λ n. sym (nothing_last (optional (field_at n ts))) d, fuse_optional r s, sym (optional_assoc (common_in ts) r s) d))
    ∙ ap (λ q. fuse_parts q (parts_with [] s)) (sym e)

-- fields, then the type of other fields
pub whole : (p q new : Parts) (ts : List TypedName) (s : Optional) → q ≡ fuse_parts p (listed_parts ts Absent) → new ≡ fuse_parts q (parts_with [] s) →
    new ≡ fuse_parts p (listed_parts ts s)
whole p q new ts s e is =
    is ∙ ap (λ x. fuse_parts x (parts_with [] s)) e ∙ parts_assoc p (listed_parts ts Absent) (parts_with [] s)
    ∙ ap (fuse_parts p) (sym (with_rest (listed_parts ts Absent) (firsts ts) Absent s refl))
