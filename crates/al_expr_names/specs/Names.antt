-- Names of contexts and functions (GitHub's pages on contexts and on expressions).
use Rattle.std.specs.Prelude.{codes, find, ℕ, List, [], ◌∷◌, Option}
use Rattle.std.specs.Option.{option_map_or}
use Rattle.std.specs.Map.{lookup}
use Rattle.al_base.specs.Names.{same_name}
use Rattle.al_expr_names.specs.contracts.names.ContextPartialEq.TheImpl as equal_contexts
use Rattle.al_expr_names.specs.contracts.names.FunctionPartialEq.TheImpl as equal_functions
use Rattle.al_expr_names.specs.declared.names.Context.{Context}
use Rattle.al_expr_names.specs.declared.names.Context.TheVariants as context
use Rattle.al_expr_names.specs.declared.names.Function.{Function}
use Rattle.al_expr_names.specs.declared.names.Function.TheVariants as function

abbrev pub contexts : List (List ℕ × Context)
contexts =
    (codes "github", context.Github) ∷ (codes "env", context.Env) ∷ (codes "vars", context.Vars)
    ∷ (codes "secrets", context.Secrets) ∷ (codes "runner", context.Runner)
    ∷ (codes "job", context.Job) ∷ (codes "strategy", context.Strategy)
    ∷ (codes "needs", context.Needs) ∷ (codes "jobs", context.Jobs) ∷ (codes "steps", context.Steps)
    ∷ (codes "matrix", context.Matrix) ∷ (codes "inputs", context.Inputs) ∷ []

abbrev pub functions : List (List ℕ × Function)
functions =
    (codes "contains", function.Contains) ∷ (codes "startsWith", function.StartsWith)
    ∷ (codes "endsWith", function.EndsWith) ∷ (codes "format", function.Format)
    ∷ (codes "join", function.Join) ∷ (codes "toJSON", function.ToJson)
    ∷ (codes "fromJSON", function.FromJson) ∷ (codes "hashFiles", function.HashFiles)
    ∷ (codes "success", function.Success) ∷ (codes "always", function.Always)
    ∷ (codes "cancelled", function.Cancelled) ∷ (codes "failure", function.Failure) ∷ []

-- the one with a name
abbrev pub context_of : List ℕ → Option Context
context_of n = lookup (λ name. same_name name n) contexts

abbrev pub function_of : List ℕ → Option Function
function_of n = lookup (λ name. same_name name n) functions

-- the name of each
abbrev pub context_name : Context → List ℕ
context_name c =
    option_map_or (λ row. row.0) (find (λ row. equal_contexts.ghosts.eq row.1 c) contexts) []

abbrev pub function_name : Function → List ℕ
function_name f =
    option_map_or (λ row. row.0) (find (λ row. equal_functions.ghosts.eq row.1 f) functions) []
