-- Which contexts and special functions are available at a place of a workflow (GitHub, "Contexts
-- reference", context availability): the table, and its row with the longest path.
use Prim.Native.String.{String}
use Rattle.std.specs.Prelude.{ℕ, List, [], ◌∷◌, ◌++◌, map, filter, Option, Some, None, length}
use Rattle.std.specs.Prelude.{nat_lt, if◌then◌else◌}
use Rattle.std.specs.List.{fold}
use Rattle.al_expr_names.specs.declared.names.Context.{Context}
use Rattle.al_expr_names.specs.declared.names.Context.TheVariants.{Github, Needs, Vars, Inputs}
use Rattle.al_expr_names.specs.declared.names.Context.TheVariants.{Strategy, Matrix, Job}
use Rattle.al_expr_names.specs.declared.names.Context.TheVariants.{Runner, Env, Secrets, Steps}
use Rattle.al_expr_names.specs.declared.names.Context.TheVariants.{Jobs}
use Rattle.al_expr_names.specs.declared.names.Function.{Function}
use Rattle.al_expr_names.specs.declared.names.Function.TheVariants.{HashFiles}
use Rattle.al_expr_names.specs.Scopes.{status}
use Rattle.al_check_places.specs.Paths.{Path, path, is_path_prefix, key_view}
use Rattle.al_check_places.specs.declared.table.AvailabilityRow as rust

-- a path, with the contexts and special functions there
pub record AvailabilityRow : Type 0 where
  pub path : Path
  pub contexts : List Context
  pub special : List Function

abbrev pub of_basic : List Context
of_basic = Github ∷ Needs ∷ Vars ∷ Inputs ∷ []

abbrev pub of_strategy : List Context
of_strategy = of_basic ++ Strategy ∷ Matrix ∷ []

abbrev pub of_job : List Context
of_job = of_strategy ++ Job ∷ Runner ∷ Env ∷ []

abbrev pub of_step : List Context
of_step = of_job ++ Secrets ∷ Steps ∷ []

-- the rows of paths that have the same contexts and special functions
abbrev pub rows : List String → List Context → List Function → List AvailabilityRow
rows paths contexts special =
    map (λ p. record { path = path p; contexts = contexts; special = special }) paths

abbrev pub table : List AvailabilityRow
table =
    rows ("run-name" ∷ "concurrency" ∷ "on.workflow_call.inputs.*.default" ∷ [])
    (Github ∷ Inputs ∷ Vars ∷ []) []
    ++ rows ("env" ∷ []) (Github ∷ Secrets ∷ Inputs ∷ Vars ∷ []) []
    ++ rows ("on.workflow_call.outputs.*.value" ∷ []) (Github ∷ Jobs ∷ Vars ∷ Inputs ∷ []) []
    ++ rows ("jobs.*.if" ∷ []) of_basic status
    ++ rows ("jobs.*.strategy" ∷ []) of_basic []
    ++ rows ("jobs.*.concurrency" ∷ "jobs.*.container" ∷ "jobs.*.container.image"
    ∷ "jobs.*.continue-on-error" ∷ "jobs.*.environment" ∷ "jobs.*.name" ∷ "jobs.*.runs-on"
    ∷ "jobs.*.services" ∷ "jobs.*.timeout-minutes" ∷ "jobs.*.with.*" ∷ []) of_strategy []
    ++ rows ("jobs.*.defaults.run" ∷ []) (of_strategy ++ Env ∷ []) []
    ++ rows ("jobs.*.env" ∷ "jobs.*.secrets.*" ∷ []) (of_strategy ++ Secrets ∷ []) []
    ++ rows ("jobs.*.container.credentials" ∷ "jobs.*.services.*.credentials" ∷ [])
    (of_strategy ++ Env ∷ Secrets ∷ []) []
    ++ rows ("jobs.*.container.env.*" ∷ "jobs.*.services.*.env.*" ∷ []) (of_job ++ Secrets ∷ []) []
    ++ rows ("jobs.*.environment.url" ∷ []) (of_job ++ Steps ∷ []) []
    ++ rows ("jobs.*.outputs.*" ∷ []) of_step []
    ++ rows ("jobs.*.steps.continue-on-error" ∷ "jobs.*.steps.env" ∷ "jobs.*.steps.name"
    ∷ "jobs.*.steps.run" ∷ "jobs.*.steps.timeout-minutes" ∷ "jobs.*.steps.with"
    ∷ "jobs.*.steps.working-directory" ∷ []) of_step (HashFiles ∷ [])
    ++ rows ("jobs.*.steps.if" ∷ []) (of_job ++ Steps ∷ []) (status ++ HashFiles ∷ [])

-- the longer of two
abbrev pub longer : Option AvailabilityRow → AvailabilityRow → Option AvailabilityRow
longer None r = Some r
longer (Some q) r = if nat_lt (length q.path) (length r.path) then Some r else Some q

-- the row with the longest path that is a prefix of the keys; None if everything is available
abbrev pub availability : List (List ℕ) → Option AvailabilityRow
availability ks = fold longer None (filter (λ r. is_path_prefix r.path ks) table)

-- the meaning of the program's rows
abbrev pub row_view : rust.AvailabilityRow → AvailabilityRow
row_view r =
    record { path = map key_view r.path.now; contexts = r.contexts.now; special = r.special.now }
