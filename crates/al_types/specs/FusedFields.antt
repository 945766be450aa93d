-- What two objects have in common, field by field.
use Rattle.std.specs.Prelude.{◌≡◌, [], ◌∷◌, ◌++◌, Bool, true, not, ◌&&◌, if◌then◌else◌, Option}
use Rattle.std.specs.Prelude.{Some, None}
use Rattle.al_types.specs.Types.{Type', Optional, Fields, field_at, fuse_optional, fuse_type}
use Rattle.al_types.specs.Types.{has_field, object_with}

-- the fields of the second that the first doesn't have
abbrev pub missing_fields : Fields → Fields → Fields
missing_fields fs [] = []
missing_fields fs (g ∷ gs) = let more = missing_fields fs gs in if has_field g.0 fs then more
    else g ∷ more

-- a type fused with another, if there is one
abbrev pub with_other : Type' → Option Type' → Type'
with_other t None = t
with_other t (Some u) = fuse_type t u

-- the first fields, each fused with the other's field of its name, if there is one
abbrev pub fuse_fields : Fields → Fields → Fields
fuse_fields [] gs = []
fuse_fields (f ∷ fs) gs = (f.0, with_other f.1 (field_at f.0 gs)) ∷ fuse_fields fs gs

-- the fields of both
abbrev pub both : Fields → Fields → Fields
both fs gs = fuse_fields fs gs ++ missing_fields fs gs

-- whether all names are different
abbrev pub are_distinct : Fields → Bool
are_distinct [] = true
are_distinct (f ∷ fs) = not (has_field f.0 fs) && are_distinct fs

-- Two objects have in common the fields of both, those with one name fused, and the types of other
-- fields if either has one; and what all of these have in common is what those of the one and of
-- the other have. A name refers only to the first field with it, so no name may occur twice in the
-- second.
abbrev pub ObjectsFuse : Type 0
ObjectsFuse =
    (fs gs : Fields) (r s : Optional) → are_distinct gs ≡ true →
    fuse_type (object_with fs r) (object_with gs s) ≡ object_with (both fs gs) (fuse_optional r s)
