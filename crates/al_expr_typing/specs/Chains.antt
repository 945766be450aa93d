-- The type of the operands of a chain so far.
use Rattle.std.specs.Prelude.{length, Bool}
use Rattle.al_types.specs.Presence.{is_present}
use Rattle.al_types.specs.Types.{Type', option_of, or_any}
use Rattle.al_expr_types.specs.Joining.{is_join_below, join_in}
use Rattle.al_expr_types.specs.Tables.{objects_of}
use Rattle.al_expr_types.specs.declared.joining.Join.{Join}
use Rattle.al_expr_types.specs.declared.types.Types.{Types}

abbrev pub type_so_far : Types → Join → Type'
type_so_far types j = or_any (option_of (join_in (objects_of types) j))

-- whether there is an operand
abbrev pub has_operand : Types → Join → Bool
has_operand types j = is_present (join_in (objects_of types) j)

-- whether its objects are those of the table
abbrev pub is_join_known : Types → Join → Bool
is_join_known types j = is_join_below (length types.objects.items) j
