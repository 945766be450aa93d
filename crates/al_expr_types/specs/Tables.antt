-- The meaning of a table of types.
use Rattle.std.specs.Prelude.{List, length, Bool}
use Rattle.al_types.specs.Types.{Parts, Type'}
use Rattle.al_expr_types.specs.Types.{is_below, parts_of_all, type_in}
use Rattle.al_expr_types.specs.declared.ty.Ty.{Ty}
use Rattle.al_expr_types.specs.declared.types.Types.{Types}

-- its objects
abbrev pub objects_of : Types → List Parts
objects_of s = parts_of_all s.objects.items

-- the meaning of a type
abbrev pub type_at : Types → Ty → Type'
type_at s t = type_in (objects_of s) t

-- whether it refers to objects of the table
abbrev pub is_known : Types → Ty → Bool
is_known s t = is_below (length s.objects.items) t
