-- The meaning of types that refer to objects by number, object after object.
use Rattle.std.specs.Prelude.{ℕ, zero, suc, List, [], ◌∷◌, ◌++◌, map, take, zip}
use Rattle.std.specs.Prelude.{get_or, Bool, true, false, ◌&&◌, nat_lt, Option, Some, None}
use Rattle.std.specs.List.{list_all}
use Rattle.al_types.specs.Types.{Type', Any, Null, Number, Bool', String, ArrayOf, Optional, Absent}
use Rattle.al_types.specs.Types.{Present, Parts}
use Rattle.al_types.specs.Types.{fuse_optional, object_type, parts_with}
use Rattle.al_types.specs.Strings.{strings}
use Rattle.al_types.specs.Fused.{fuse_all}
use Rattle.al_expr_types.specs.Names.{names_in}
use Rattle.al_expr_types.specs.declared.ty.Scalar.{Scalar}
use Rattle.al_expr_types.specs.declared.ty.Scalar.TheVariants as scalar
use Rattle.al_expr_types.specs.declared.ty.Base.{Base}
use Rattle.al_expr_types.specs.declared.ty.Base.TheVariants as base
use Rattle.al_expr_types.specs.declared.ty.Ty.{Ty}
use Rattle.al_expr_types.specs.declared.objects.Extension.{Extension}
use Rattle.al_expr_types.specs.declared.objects.Fields.{Fields}
use Rattle.al_expr_types.specs.declared.objects.Object.{Object}
use Rattle.al_expr_types.specs.declared.objects.Object.TheVariants as object

abbrev pub scalar_type : Scalar → Type'
scalar_type scalar.Any = Any
scalar_type scalar.Null = Null
scalar_type scalar.Number = Number
scalar_type scalar.Bool = Bool'
scalar_type scalar.String = String

-- an object without fields
abbrev pub no_parts : Parts
no_parts = parts_with [] Absent

-- the object with a number, among these
abbrev pub object_in : List Parts → ℕ → Parts
object_in ms n = get_or ms n no_parts

abbrev pub base_type : List Parts → Base → Type'
base_type ms (base.Scalar s) = scalar_type s
base_type ms (base.Object n) = object_type (object_in ms n)

abbrev pub is_any : Base → Bool
is_any (base.Scalar scalar.Any) = true
is_any _ = false

abbrev pub arrays_of : ℕ → Type' → Type'
arrays_of zero t = t
arrays_of (suc n) t = ArrayOf (arrays_of n t)

abbrev pub type_in : List Parts → Ty → Type'
type_in ms t = arrays_of t.arrays (base_type ms t.of)

abbrev pub rest_in : List Parts → Option Ty → Optional
rest_in ms None = Absent
rest_in ms (Some t) = Present (type_in ms t)

-- names with their types
abbrev pub named_types : List Parts → List (List ℕ) → List Ty → List (List ℕ × Type')
named_types ms ns ts = zip ns (map (type_in ms) ts)

abbrev pub fields_parts : List Parts → Fields → Parts
fields_parts ms f =
    parts_with (named_types ms (names_in f.map.value.names) (take f.count f.map.value.types.items))
    (rest_in ms f.rest)

-- what types have in common
abbrev pub common_of : List Type' → Optional
common_of [] = Absent
common_of (t ∷ ts) = fuse_optional (Present t) (common_of ts)

-- what all of its fields have in common is that of the prefix and of the types after it
abbrev pub extension_parts : List Parts → Extension → Parts
extension_parts ms e =
    let p = fields_parts ms e.fields in (
      p.0,
      p.1,
      fuse_optional (object_in ms e.base.object).2
          (common_of (map (type_in ms) e.own.items)),
    )

-- string fields with these names
abbrev pub strings_parts : List (List ℕ) → Parts
strings_parts ns = parts_with (strings ns) Absent

-- an object, among those before it
abbrev pub object_parts : List Parts → Object → Parts
object_parts ms (object.Fields f) = fields_parts ms f
object_parts ms (object.Extension e) = extension_parts ms e
object_parts ms (object.Strings ns) = strings_parts ns.now
object_parts ms (object.Common ns) = fuse_all (map (object_in ms) ns.value.items)

-- objects one after another, after those before them
abbrev pub parts_after : List Parts → List Object → List Parts
parts_after ms [] = []
parts_after ms (o ∷ os) = let p = object_parts ms o in p ∷ parts_after (ms ++ p ∷ []) os

abbrev pub parts_of_all : List Object → List Parts
parts_of_all os = parts_after [] os

-- ---- whether only objects with numbers below n are referred to

abbrev pub is_base_below : ℕ → Base → Bool
is_base_below n (base.Scalar s) = true
is_base_below n (base.Object m) = nat_lt m n

abbrev pub is_below : ℕ → Ty → Bool
is_below n t = is_base_below n t.of

abbrev pub is_rest_below : ℕ → Option Ty → Bool
is_rest_below n None = true
is_rest_below n (Some t) = is_below n t

abbrev pub are_below : ℕ → List ℕ → Bool
are_below n ms = list_all (λ m. nat_lt m n) ms

abbrev pub are_fields_below : ℕ → Fields → Bool
are_fields_below n f = list_all (is_below n) f.map.value.types.items && is_rest_below n f.rest

-- what fields extend
abbrev pub is_extended_below : ℕ → Extension → Bool
is_extended_below n e = nat_lt e.base.object n && list_all (is_below n) e.own.items

abbrev pub is_object_below : ℕ → Object → Bool
is_object_below n (object.Fields f) = are_fields_below n f
is_object_below n (object.Extension e) = are_fields_below n e.fields && is_extended_below n e
is_object_below n (object.Strings ns) = true
is_object_below n (object.Common ns) = are_below n ns.value.items

-- each object refers only to earlier ones
abbrev pub are_in_order : ℕ → List Object → Bool
are_in_order n [] = true
are_in_order n (o ∷ os) = is_object_below n o && are_in_order (suc n) os
