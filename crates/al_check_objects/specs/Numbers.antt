-- The meaning of the types in a table.
use Rattle.std.specs.Prelude.{◌≡◌, List, true, length, IfOk, OnOk, Result}
use Rattle.al_base.specs.Growth.{BeginsWith}
use Rattle.al_types.specs.Puts.{TypedName}
use Rattle.al_types.specs.Types.{Type'}
use Rattle.al_expr_types.specs.FieldMaps.{fields_in, is_map_below}
use Rattle.al_expr_types.specs.Tables.{is_known, objects_of, type_at}
use Rattle.al_expr_types.specs.declared.ty.Ty.{Ty}
use Rattle.al_expr_types.specs.declared.types.Types.{Types}
use Rattle.al_check_objects.specs.declared.field_lists.FieldList.{FieldList}

-- a type refers to the table, and means this type
pub record Means (types : Types) (t : Ty) (m : Type') : Type 0 where
  pub known : is_known types t ≡ true
  pub is : type_at types t ≡ m

-- A call that returns this result makes a type that means this one, and only adds objects to the
-- table.
pub record Makes {E : Type 0} (old new : Types) (result : Result Ty E) (m : Type') : Type 0 where
  pub ty : IfOk result (λ t. Means new t m)
  pub kept : OnOk result (BeginsWith (objects_of new) (objects_of old))

-- fields whose types refer to the table, and that mean these
pub record Lists (types : Types) (l : FieldList) (ts : List TypedName) : Type 0 where
  pub known : is_map_below (length types.objects.items) l.map ≡ true
  pub are : fields_in (objects_of types) l.map ≡ ts
