-- The types of contexts in a table of types: all at a position, those of a section.
use Rattle.std.specs.Prelude.{List, Option}
use Rattle.std.specs.Option.{option_map_or}
use Rattle.al_types.specs.Types.{Any, Type'}
use Rattle.al_expr_names.specs.declared.names.Context.{Context}
use Rattle.al_scalar.specs.Scalar.{Scalar}
use Rattle.al_yaml_tree.specs.Node.{Node}
use Rattle.al_check_places.specs.Positions.{Position, Section}
use Rattle.al_check_places.specs.declared.positions.Seen.{Seen}
use Rattle.al_check_contexts.specs.Contexts.{OutputNames, jobs_in, needs_type}
use Rattle.al_check_objects.specs.Fixed.{strategy_type}
use Rattle.al_check_objects.specs.Matrix.{matrix_type}
use Rattle.al_expr_types.specs.declared.types.Types.{Types}
use Rattle.al_expr_typing.specs.Scopes.{context_number}
use Rattle.al_expr_typing.specs.declared.scope.ContextTypes.{ContextTypes}
use Rattle.al_check_objects.specs.Numbers.{Means}
use Rattle.al_check_contexts.specs.declared.sections.SectionTypes.{SectionTypes}

abbrev pub position : Section → Seen → Position
position s seen = record { section = s; seen = seen }

-- each context has its type
pub record Shows (types : Types) (ts : ContextTypes) (m : Context → Type') : Type 0 where
  pub each : (c : Context) → Means types (context_number ts c) (m c)

-- the types of a section of a workflow with these jobs, one of which is the section's
pub record AreOfSection (types : Types) (known : OutputNames) (js : List (Scalar × Node))
    (s : Section)
    (job : Option (Scalar × Node)) (st : SectionTypes) : Type 0 where
  pub strategy : Means types st.strategy (option_map_or (λ j. strategy_type) job Any)
  pub needs : Means types st.needs (option_map_or (λ j. needs_type known js j.1) job Any)
  pub jobs : Means types st.jobs (jobs_in known js s)
  pub matrix : Means types st.matrix (option_map_or (λ j. matrix_type j.1) job Any)
