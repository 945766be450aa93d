-- What is available at a place, with types in a table.
use Rattle.std.specs.Prelude.{◌≡◌, List, true}
use Rattle.al_expr_names.specs.Scopes.{Scope, available_of}
use Rattle.al_expr_names.specs.declared.names.Context.{Context}
use Rattle.al_expr_names.specs.declared.names.Context.TheVariants as context
use Rattle.al_types.specs.Types.{Parts}
use Rattle.al_expr_types.specs.Tables.{is_known, objects_of}
use Rattle.al_expr_types.specs.Types.{type_in}
use Rattle.al_expr_types.specs.declared.ty.Ty.{Ty}
use Rattle.al_expr_types.specs.declared.types.Types.{Types}
use Rattle.al_expr_typing.specs.declared.scope.ContextTypes.{ContextTypes}
use Rattle.al_expr_typing.specs.declared.scope.Scope as code

abbrev pub context_number : ContextTypes → Context → Ty
context_number ts context.Github = ts.github
context_number ts context.Env = ts.env
context_number ts context.Vars = ts.vars
context_number ts context.Secrets = ts.secrets
context_number ts context.Runner = ts.runner
context_number ts context.Job = ts.job
context_number ts context.Strategy = ts.strategy
context_number ts context.Needs = ts.needs
context_number ts context.Jobs = ts.jobs
context_number ts context.Steps = ts.steps
context_number ts context.Matrix = ts.matrix
context_number ts context.Inputs = ts.inputs

abbrev pub scope_in : List Parts → code.Scope → Scope
scope_in ms s =
    record {
      types = λ c. type_in ms (context_number s.types c);
      available = available_of s.available;
      in_run = s.in_run;
    }

abbrev pub scope_view : Types → code.Scope → Scope
scope_view types s = scope_in (objects_of types) s

-- each context's type refers to the table
pub record IsShown (types : Types) (s : code.Scope) : Type 0 where
  pub known : (c : Context) → is_known types (context_number s.types c) ≡ true
