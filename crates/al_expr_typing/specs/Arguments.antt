-- What clauses see of a call's arguments.
use Rattle.std.specs.Prelude.{List, Bool}
use Rattle.std.specs.List.{list_all}
use Rattle.al_base.specs.declared.faults.Span.{Span}
use Rattle.al_expr_typing.specs.declared.calls.Argument.{Argument}
use Rattle.al_types.specs.Types.{Parts, Type'}
use Rattle.al_expr_types.specs.Tables.{is_known, objects_of}
use Rattle.al_expr_types.specs.Types.{type_in}
use Rattle.al_expr_types.specs.declared.types.Types.{Types}

abbrev pub argument_in : List Parts → Argument → (Type' × Span)
argument_in ms a = (type_in ms a.ty, a.span)

abbrev pub argument_at : Types → Argument → (Type' × Span)
argument_at types a = argument_in (objects_of types) a

-- whether each argument's type refers to the table
abbrev pub are_known : Types → List Argument → Bool
are_known types as' = list_all (λ a. is_known types a.ty) as'
