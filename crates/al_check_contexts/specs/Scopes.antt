-- What an expression can refer to at a place.
use Rattle.std.specs.Prelude.{List, [], ◌∷◌, Bool, map, Option, if◌then◌else◌}
use Rattle.std.specs.Option.{option_map_or}
use Rattle.al_expr_names.specs.Names.{contexts}
use Rattle.al_expr_names.specs.Scopes.{Available, Scope, available, special}
use Rattle.al_expr_names.specs.declared.names.Context.{Context}
use Rattle.al_expr_names.specs.declared.names.Context.TheVariants.{Github, Env, Vars, Runner, Job}
use Rattle.al_expr_names.specs.declared.names.Context.TheVariants.{Strategy}
use Rattle.al_expr_names.specs.declared.names.Context.TheVariants.{Needs, Jobs, Steps, Matrix}
use Rattle.al_expr_names.specs.declared.names.Context.TheVariants.{Inputs}
use Rattle.al_expr_names.specs.declared.names.Function.{Function}
use Rattle.al_expr_names.specs.declared.names.Function.TheVariants.{HashFiles}
use Rattle.al_yaml_tree.specs.Node.{Node}
use Rattle.al_tree.specs.declared.files.FileKind.{FileKind}
use Rattle.al_tree.specs.declared.files.FileKind.TheVariants as kind
use Rattle.al_check_places.specs.Availability.{AvailabilityRow}
use Rattle.al_check_places.specs.Places.{Place}
use Rattle.al_check_contexts.specs.Contexts.{OutputNames, context_type_at}

-- all but `secrets`
abbrev pub of_action : List Context
of_action =
    Github ∷ Env ∷ Vars ∷ Runner ∷ Job ∷ Strategy ∷ Needs ∷ Jobs ∷ Steps ∷ Matrix ∷ Inputs ∷ []

-- the status functions only in conditions
abbrev pub special_in_action : Bool → List Function
special_in_action is_condition = if is_condition then special else HashFiles ∷ []

-- In a workflow the row of the place decides; without one, every context is available.
abbrev pub available_at : FileKind → Option AvailabilityRow → Bool → Available
available_at kind.Workflow row is_condition =
    option_map_or (λ r. available r.contexts r.special) row (available (map (λ c. c.1) contexts) [])
available_at kind.Action row is_condition = available of_action (special_in_action is_condition)

abbrev pub scope_at : FileKind → OutputNames → Node → Place → Scope
scope_at k known root p =
    record {
      types = context_type_at k known root p.position;
      available = available_at k p.available p.is_condition;
      in_run = p.is_script;
    }
