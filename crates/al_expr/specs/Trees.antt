-- What contracts see of trees: the type that each of them represents.
use Rattle.std.specs.Prelude.{List, [], ◌∷◌, Option, Some, None, Box, string_bytes}
use Rattle.std.specs.Global.{Global}
use Rattle.al_types.specs.Puts.{TypedName, firsts}
use Rattle.al_types.specs.Types.{Type', Any, Null, Number, Bool', String, ArrayOf, Optional, Absent}
use Rattle.al_types.specs.Types.{Present, Parts}
use Rattle.al_types.specs.Types.{object_type, parts_with}
use Rattle.al_expr.specs.declared.trees.Ty.{Ty}
use Rattle.al_expr.specs.declared.trees.Ty as code
use Rattle.al_expr.specs.declared.trees.Field.{Field}
use Rattle.al_expr.specs.declared.trees.Ty.{Row_of-Field, end_of-Field, more_of-Field}
use Rattle.al_expr.specs.declared.trees.Ty.{Held-Ty-Object-1, None', Some'}

-- an object with these fields, where the first with each name counts, and with others of a type if
-- others are possible
abbrev pub listed_parts : List TypedName → Optional → Parts
listed_parts ts rest = parts_with (firsts ts) rest

-- an object with one field
abbrev pub field_parts : TypedName → Parts
field_parts f = parts_with (f ∷ []) Absent

abbrev mutual
  pub ty_of : Ty → Type'
  ty_of code.Any = Any
  ty_of code.Null = Null
  ty_of code.Number = Number
  ty_of code.Bool = Bool'
  ty_of code.String = String
  ty_of (code.Array' p t) = ArrayOf (ty_of t)
  ty_of (code.Object' shape fs rest) = object_type (listed_parts (fields_in fs) (rest_in rest))

  pub fields_in : {n : _} → Row_of-Field n → List TypedName
  fields_in end_of-Field = []
  fields_in (more_of-Field name t fs) = (string_bytes name, ty_of t) ∷ fields_in fs

  pub rest_in : Held-Ty-Object-1 → Optional
  rest_in None' = Absent
  rest_in (Some' p t) = Present (ty_of t)

abbrev pub field_of : Field → TypedName
field_of f = (string_bytes f.name, ty_of f.ty)

abbrev pub rest_of : Option (Box Ty Global) → Optional
rest_of None = Absent
rest_of (Some b) = Present (ty_of b.value)
