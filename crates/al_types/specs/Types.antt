-- The types of expressions: which can be used where another is expected, and what two have in
-- common.
use Rattle.std.specs.Prelude.{ℕ, List, [], ◌∷◌, Bool, true, false, ◌&&◌, ◌||◌, not, if◌then◌else◌}
use Rattle.std.specs.Prelude.{Option, Some, None}
use Rattle.al_base.specs.Names.{same_name}

mutual
  pub data Type' : Type 0 where
    Any Null Number Bool' String : Type'
    ArrayOf : Type' → Type'
    -- by the type of the field with each name, that of all other fields, and what all of them have
    -- in common
    ObjectOf : (List ℕ → Optional) → Optional → Optional → Type'

  -- a type, if there is one
  pub data Optional : Type 0 where
    Absent : Optional
    Present : Type' → Optional

abbrev pub optional : Option Type' → Optional
optional None = Absent
optional (Some t) = Present t

abbrev pub option_of : Optional → Option Type'
option_of Absent = None
option_of (Present t) = Some t

abbrev pub is_array : Type' → Bool
is_array (ArrayOf a) = true
is_array _ = false

abbrev pub is_object : Type' → Bool
is_object (ObjectOf at rest all) = true
is_object _ = false

abbrev pub is_collection : Type' → Bool
is_collection t = is_array t || is_object t

-- number, bool or string
abbrev pub is_plain : Type' → Bool
is_plain Number = true
is_plain Bool' = true
is_plain String = true
is_plain _ = false

-- Whether a value of the one type can be used where the other is expected.
abbrev pub assignable_type : Type' → Type' → Bool
assignable_type Any to = true
assignable_type from Any = true
assignable_type from String = not (is_collection from)
assignable_type Null Null = true
assignable_type Number Number = true
assignable_type Bool' Bool' = true
assignable_type (ArrayOf a) (ArrayOf b) = assignable_type a b
assignable_type (ObjectOf at rest all) (ObjectOf bt other both) = true
assignable_type from to = false

-- What two types have in common: a type has itself in common with itself, two other plain types a
-- string, arrays what their elements have, objects all fields of both, those with one name fused;
-- otherwise any.
abbrev mutual
  pub fuse_type : Type' → Type' → Type'
  fuse_type Any b = Any
  fuse_type Null Null = Null
  fuse_type Number Number = Number
  fuse_type Bool' Bool' = Bool'
  fuse_type (ArrayOf a) (ArrayOf b) = ArrayOf (fuse_type a b)
  fuse_type (ObjectOf at rest all) (ObjectOf bt other both) =
      ObjectOf (λ n. fuse_optional (at n) (bt n)) (fuse_optional rest other)
      (fuse_optional all both)
  fuse_type a b = if is_plain a && is_plain b then String else Any

  pub fuse_optional : Optional → Optional → Optional
  fuse_optional Absent o = o
  fuse_optional (Present t) Absent = Present t
  fuse_optional (Present t) (Present u) = Present (fuse_type t u)

-- fields in order, each with its name
abbrev pub Fields : Type 0
Fields = List (List ℕ × Type')

-- the type of the first field with a name
abbrev pub field_at : List ℕ → Fields → Option Type'
field_at n [] = None
field_at n (f ∷ fs) = if same_name f.0 n then Some f.1 else field_at n fs

abbrev pub has_field : List ℕ → Fields → Bool
has_field n [] = false
has_field n (f ∷ fs) = same_name f.0 n || has_field n fs

-- what all fields have in common
abbrev pub common_in : Fields → Optional
common_in [] = Absent
common_in (f ∷ fs) = fuse_optional (Present f.1) (common_in fs)

-- an object, by the type of the field with each name, that of all other fields, and what all of
-- them have in common
abbrev pub Parts : Type 0
Parts = (List ℕ → Optional) × Optional × Optional

abbrev pub object_type : Parts → Type'
object_type p = ObjectOf p.0 p.1 p.2

-- an object with these fields, and others of a type if others are possible
abbrev pub parts_with : Fields → Optional → Parts
parts_with fs rest = (λ n. optional (field_at n fs), rest, fuse_optional (common_in fs) rest)

abbrev pub object_with : Fields → Optional → Type'
object_with fs rest = object_type (parts_with fs rest)

-- a type, or any if there is none
abbrev pub or_any : Option Type' → Type'
or_any None = Any
or_any (Some t) = t

-- the one type, or the other if there is none
abbrev pub or_else : Optional → Optional → Optional
or_else Absent o = o
or_else (Present t) o = Present t

-- the type of an object's property: that of the field with its name, otherwise that of all other
-- fields; other types have none
abbrev pub property_in : List ℕ → Type' → Option Type'
property_in n (ObjectOf at rest all) = option_of (or_else (at n) rest)
property_in n _ = None
