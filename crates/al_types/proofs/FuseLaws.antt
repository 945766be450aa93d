-- Fusing types is associative, commutative and idempotent, and an object without fields is neutral.
use Rattle.std.proofs.Common.{◌≡◌, List, [], ◌∷◌, ◌++◌, refl, sym, ap, ◌∙◌, Option, Some, None}
use Rattle.al_types.specs.Types.{Type', Any, ArrayOf, ObjectOf, Optional, Absent, Present}
use Rattle.al_types.specs.Types.{Parts, fuse_optional, fuse_type, option_of, optional, parts_with}
use Rattle.al_types.specs.Fused.{fuse_parts, fused_with, fuse_all}
use Rattle.al_types.specs.TypeParts.{common_type}

mutual
  -- associative
  pub fuse_assoc : (a b c : Type') → fuse_type (fuse_type a b) c ≡ fuse_type a (fuse_type b c)
  fuse_assoc Any Any Any = refl
  fuse_assoc (ArrayOf a) (ArrayOf b) (ArrayOf c) = ap ArrayOf (fuse_assoc a b c)
  fuse_assoc (ObjectOf f r x) (ObjectOf g s y) (ObjectOf h q z) =
      λ d. ObjectOf (λ n. optional_assoc (f n) (g n) (h n) d) (optional_assoc r s q d) (optional_assoc x y z d)
  fuse_assoc a Any c = refl
  fuse_assoc a b Any = refl
  fuse_assoc a b c = refl

  pub optional_assoc : (a b c : Optional) → fuse_optional (fuse_optional a b) c ≡ fuse_optional a (fuse_optional b c)
  optional_assoc Absent b c = refl
  optional_assoc (Present a) Absent c = refl
  optional_assoc (Present a) (Present b) Absent = refl
  optional_assoc (Present a) (Present b) (Present c) = ap Present (fuse_assoc a b c)

mutual
  -- commutative
  pub fuse_turned : (a b : Type') → fuse_type a b ≡ fuse_type b a
  fuse_turned Any Any = refl
  fuse_turned (ArrayOf a) (ArrayOf b) = ap ArrayOf (fuse_turned a b)
  fuse_turned (ObjectOf f r x) (ObjectOf g s y) =
      λ d. ObjectOf (λ n. optional_turned (f n) (g n) d) (optional_turned r s d) (optional_turned x y d)
  fuse_turned a Any = refl
  fuse_turned a b = refl

  pub optional_turned : (a b : Optional) → fuse_optional a b ≡ fuse_optional b a
  optional_turned Absent Absent = refl
  optional_turned Absent (Present b) = refl
  optional_turned (Present a) Absent = refl
  optional_turned (Present a) (Present b) = ap Present (fuse_turned a b)

mutual
  -- idempotent
  pub fuse_same : (a : Type') → fuse_type a a ≡ a
  fuse_same (ArrayOf a) = ap ArrayOf (fuse_same a)
  fuse_same (ObjectOf f r x) = λ d. ObjectOf (λ n. optional_same (f n) d) (optional_same r d) (optional_same x d)
  fuse_same _ = refl

  pub optional_same : (a : Optional) → fuse_optional a a ≡ a
  optional_same Absent = refl
  optional_same (Present a) = ap Present (fuse_same a)

pub nothing_last : (o : Optional) → fuse_optional o Absent ≡ o
nothing_last Absent = refl
nothing_last (Present t) = refl

-- ---- swapping the last two of three types, and the middle two of four

pub last_turned : (a b c : Optional) → fuse_optional (fuse_optional a b) c ≡ fuse_optional (fuse_optional a c) b
last_turned a b c = optional_assoc a b c ∙ ap (fuse_optional a) (optional_turned b c) ∙ sym (optional_assoc a c b)

pub middle_turned : (a b c d : Optional) →
    fuse_optional (fuse_optional a b) (fuse_optional c d) ≡ fuse_optional (fuse_optional a c) (fuse_optional b d)
middle_turned a b c d =
    sym (optional_assoc (fuse_optional a b) c d) ∙ ap (λ x. fuse_optional x d) (last_turned a b c)
    ∙ optional_assoc (fuse_optional a c) b d

-- ---- types that may be absent

pub option_back : (o : Optional) → optional (option_of o) ≡ o
option_back Absent = refl
option_back (Present t) = refl

pub optional_back : (o : Option Type') → option_of (optional o) ≡ o
optional_back None = refl
optional_back (Some t) = refl

pub common_optional : (a b : Option Type') → optional (common_type a b) ≡ fuse_optional (optional a) (optional b)
common_optional None b = refl
common_optional (Some t) None = refl
common_optional (Some t) (Some u) = refl

-- ---- objects

-- An object without fields is neutral.
pub empty_last : (p : Parts) → fuse_parts p (parts_with [] Absent) ≡ p
empty_last p = λ d. (λ n. nothing_last (p.0 n) d, nothing_last p.1 d, nothing_last p.2 d)

-- Fusing objects is associative.
pub parts_assoc : (p q r : Parts) → fuse_parts (fuse_parts p q) r ≡ fuse_parts p (fuse_parts q r)
parts_assoc p q r = λ d. (λ n. optional_assoc (p.0 n) (q.0 n) (r.0 n) d, optional_assoc p.1 q.1 r.1 d, optional_assoc p.2 q.2 r.2 d)

-- ---- many objects

with_more : (p : Parts) (ps qs : List Parts) → fused_with p (ps ++ qs) ≡ fused_with (fused_with p ps) qs
with_more p [] qs = refl
with_more p (r ∷ ps) qs = with_more (fuse_parts p r) ps qs

-- appending an object
pub fused_one_more : (ps : List Parts) (q : Parts) → fuse_all (ps ++ q ∷ []) ≡ fuse_parts (fuse_all ps) q
fused_one_more ps q = with_more (parts_with [] Absent) ps (q ∷ [])

with_before : (p q : Parts) (qs : List Parts) → fused_with (fuse_parts p q) qs ≡ fuse_parts p (fused_with q qs)
with_before p q [] = refl
with_before p q (r ∷ qs) = ap (λ x. fused_with x qs) (parts_assoc p q r) ∙ with_before p (fuse_parts q r) qs

-- Two lists of objects can be fused each on its own.
pub fused_both : (ps qs : List Parts) → fuse_all (ps ++ qs) ≡ fuse_parts (fuse_all ps) (fuse_all qs)
fused_both ps qs =
    with_more (parts_with [] Absent) ps qs ∙ ap (λ x. fused_with x qs) (sym (empty_last (fuse_all ps)))
    ∙ with_before (fuse_all ps) (parts_with [] Absent) qs
