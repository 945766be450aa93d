-- What all fields of an object have in common covers the type of each property, for the law `all_fields_cover_each`.
use Rattle.std.proofs.Common.{◌≡◌, ℕ, List, Bool, true, false, sym, ap, ◌∙◌, Option, Some, None, [], ◌∷◌}
use Rattle.std.specs.Prelude.{if◌then◌else◌}
use Rattle.al_base.specs.Names.{same_name}
use Rattle.al_types.specs.Types.{Type', Fields, Optional, Absent, Present, common_in, field_at, fuse_optional}
use Rattle.al_types.specs.Types.{object_with, option_of, optional, or_else, property_in}
use Rattle.al_types.proofs.FuseLaws.{optional_assoc, optional_same, optional_turned}

-- If b covers a, then b fused with any type does.
first_covered : (a b c : Optional) → fuse_optional a b ≡ b → fuse_optional a (fuse_optional b c) ≡ fuse_optional b c
first_covered a b c e = sym (optional_assoc a b c) ∙ ap (λ o. fuse_optional o c) e

second_covered : (a b c : Optional) → fuse_optional a c ≡ c → fuse_optional a (fuse_optional b c) ≡ fuse_optional b c
second_covered a b c e =
    ap (fuse_optional a) (optional_turned b c) ∙ first_covered a c b e ∙ optional_turned c b

some_same : (u t : Type') → Some u ≡ Some t → Present t ≡ Present u
some_same u t e = sym (ap optional e)

field_step : (b : Bool) (u t : Type') (found : Option Type') (c : Optional) → (if b then Some u else found) ≡ Some t
    → (found ≡ Some t → fuse_optional (Present t) c ≡ c)
    → fuse_optional (Present t) (fuse_optional (Present u) c) ≡ fuse_optional (Present u) c
field_step true u t found c is after =
    first_covered (Present t) (Present u) c (ap (λ o. fuse_optional o (Present u)) (some_same u t is) ∙ optional_same (Present u))
field_step false u t found c is after = second_covered (Present t) (Present u) c (after is)

field_covered : (fs : Fields) (n : List ℕ) (t : Type') → field_at n fs ≡ Some t → fuse_optional (Present t) (common_in fs) ≡ common_in fs
field_covered [] n t is = absurd cc
field_covered (f ∷ fs) n t is = field_step (same_name f.0 n) f.1 t (field_at n fs) (common_in fs) is (field_covered fs n t)

either_covered : (o : Option Type') (rest c : Optional) (t : Type') → option_of (or_else (optional o) rest) ≡ Some t
    → (o ≡ Some t → fuse_optional (Present t) c ≡ c)
    → fuse_optional (Present t) (fuse_optional c rest) ≡ fuse_optional c rest
either_covered (Some u) rest c t is field = first_covered (Present t) c rest (field is)
either_covered None Absent c t is field = absurd cc
either_covered None (Present u) c t is field =
    second_covered (Present t) c (Present u) (ap (λ o. fuse_optional o (Present u)) (some_same u t is) ∙ optional_same (Present u))

pub covered : (fs : Fields) (rest : Optional) (n : List ℕ) (t : Type') → property_in n (object_with fs rest) ≡ Some t
    → fuse_optional (Present t) (fuse_optional (common_in fs) rest) ≡ fuse_optional (common_in fs) rest
covered fs rest n t is = either_covered (field_at n fs) rest (common_in fs) t is (field_covered fs n t)
