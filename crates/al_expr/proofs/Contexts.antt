-- A predicate that is true of each context is true of all, and types in a longer table.
use Rattle.std.proofs.Common.{◌≡◌, true, ◌∙◌}
use Rattle.al_base.specs.Growth.{BeginsWith}
use Rattle.al_types.specs.Types.{Type'}
use Rattle.al_expr_names.specs.declared.names.Context.{Context}
use Rattle.al_expr_names.specs.declared.names.Context.TheVariants as context
use Rattle.al_expr_types.specs.Tables.{is_known, objects_of, type_at}
use Rattle.al_expr_types.specs.declared.ty.Ty.{Ty}
use Rattle.al_expr_types.specs.declared.types.Types.{Types}
use Rattle.al_expr_types.proofs.Stays.{known_stays, type_stays}

pub each_context : (P : Context → Type 0) → P context.Github → P context.Env → P context.Vars → P context.Secrets → P context.Runner → P context.Job →
    P context.Strategy → P context.Needs → P context.Jobs → P context.Steps → P context.Matrix → P context.Inputs → (x : Context) → P x
each_context P a b c d e f g h i j k l context.Github = a
each_context P a b c d e f g h i j k l context.Env = b
each_context P a b c d e f g h i j k l context.Vars = c
each_context P a b c d e f g h i j k l context.Secrets = d
each_context P a b c d e f g h i j k l context.Runner = e
each_context P a b c d e f g h i j k l context.Job = f
each_context P a b c d e f g h i j k l context.Strategy = g
each_context P a b c d e f g h i j k l context.Needs = h
each_context P a b c d e f g h i j k l context.Jobs = i
each_context P a b c d e f g h i j k l context.Steps = j
each_context P a b c d e f g h i j k l context.Matrix = k
each_context P a b c d e f g h i j k l context.Inputs = l

-- a type means the same in a longer table
pub stands_still : (new old : Types) (t : Ty) (u : Type') → BeginsWith (objects_of new) (objects_of old) → is_known old t ≡ true → type_at old t ≡ u →
    (is_known new t ≡ true) × (type_at new t ≡ u)
stands_still new old t u b h e = (known_stays new old t b h, type_stays new old t b h ∙ e)
