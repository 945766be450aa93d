-- What is available at a place, with types as trees.
use Rattle.std.specs.Prelude.{◌≡◌, true}
use Rattle.al_expr_names.specs.Scopes.{Scope, available_of}
use Rattle.al_types.specs.Types.{Type'}
use Rattle.al_expr_names.specs.declared.names.Context.{Context}
use Rattle.al_expr_names.specs.declared.names.Context.TheVariants as context
use Rattle.al_expr_types.specs.Tables.{is_known, type_at}
use Rattle.al_expr_types.specs.declared.types.Types.{Types}
use Rattle.al_expr_typing.specs.Scopes.{context_number}
use Rattle.al_expr_typing.specs.declared.scope.ContextTypes as numbers
use Rattle.al_expr.specs.Trees.{ty_of}
use Rattle.al_expr.specs.declared.scope.ContextTypes.{ContextTypes}
use Rattle.al_expr.specs.declared.scope.Scope as code

abbrev pub type_of_context : ContextTypes → Context → Type'
type_of_context ts context.Github = ty_of ts.github
type_of_context ts context.Env = ty_of ts.env
type_of_context ts context.Vars = ty_of ts.vars
type_of_context ts context.Secrets = ty_of ts.secrets
type_of_context ts context.Runner = ty_of ts.runner
type_of_context ts context.Job = ty_of ts.job
type_of_context ts context.Strategy = ty_of ts.strategy
type_of_context ts context.Needs = ty_of ts.needs
type_of_context ts context.Jobs = ty_of ts.jobs
type_of_context ts context.Steps = ty_of ts.steps
type_of_context ts context.Matrix = ty_of ts.matrix
type_of_context ts context.Inputs = ty_of ts.inputs

abbrev pub scope_of : code.Scope → Scope
scope_of s =
    record {
      types = type_of_context s.types;
      available = available_of s.available;
      in_run = s.in_run;
    }

-- the types of the contexts, as types in a table
pub record StandFor (types : Types) (ns : numbers.ContextTypes) (ts : ContextTypes) : Type 0 where
  pub known : (c : Context) → is_known types (context_number ns c) ≡ true
  pub are : (c : Context) → type_at types (context_number ns c) ≡ type_of_context ts c
