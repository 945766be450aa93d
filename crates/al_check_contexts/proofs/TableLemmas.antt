-- The types of contexts at a position, as they change from one to the next.
use Rattle.std.proofs.Common.{◌≡◌, List, Option, refl, sym}
use Rattle.al_base.specs.Growth.{BeginsWith}
use Rattle.al_base.proofs.Growing.{begins_same}
use Rattle.al_types.specs.Types.{Type'}
use Rattle.al_expr_names.specs.declared.names.Context.{Context}
use Rattle.al_expr_names.specs.declared.names.Context.TheVariants as context
use Rattle.al_scalar.specs.Scalar.{Scalar}
use Rattle.al_yaml_tree.specs.Node.{Node}
use Rattle.al_tree.specs.Files.{jobs_of}
use Rattle.al_tree.specs.declared.files.FileKind.{FileKind}
use Rattle.al_check_places.specs.Positions.{Section, apart}
use Rattle.al_check_places.specs.declared.positions.Seen.{Seen}
use Rattle.al_check_places.specs.declared.positions.Seen.TheVariants.{Before as before}
use Rattle.al_check_contexts.specs.Contexts.{OutputNames, context_type_at, job_in}
use Rattle.al_check_objects.specs.Fixed.{github_type, job_type, runner_type}
use Rattle.al_check_objects.specs.Inputs.{inputs_type}
use Rattle.al_check_objects.specs.Objects.{loose_strings}
use Rattle.al_expr_types.specs.Tables.{objects_of}
use Rattle.al_expr_types.specs.declared.ty.Ty.{Ty}
use Rattle.al_expr_types.specs.declared.types.Types.{Types}
use Rattle.al_expr_typing.specs.Scopes.{context_number}
use Rattle.al_expr_typing.specs.declared.scope.ContextTypes.{ContextTypes}
use Rattle.al_check_objects.specs.Numbers.{Means}
use Rattle.al_check_contexts.specs.Table.{AreOfSection, Shows, position}
use Rattle.al_check_contexts.specs.declared.sections.SectionTypes.{SectionTypes}
use Rattle.al_check_objects.proofs.Numbers.{any, any_means, means_as, means_stays}

-- ---- from one position to the next

pub shows_stays : (new old : Types) (ts : ContextTypes) (m : Context → Type') → BeginsWith (objects_of new) (objects_of old) → Shows old ts m → Shows new ts m
shows_stays new old ts m b h = record { each = λ c. means_stays new old (context_number ts c) (m c) b (h.each c) }

-- `steps` alone changes where more or fewer steps are seen
pub steps_changed : (new old : Types) (ts : ContextTypes) (t : Ty) (k : FileKind) (known : OutputNames) (root : Node) (s : Section) (seen now : Seen) →
    BeginsWith (objects_of new) (objects_of old) → Means new t (context_type_at k known root (position s now) context.Steps) →
    Shows old ts (context_type_at k known root (position s seen)) →
    Shows new (record ts { steps = t }) (context_type_at k known root (position s now))
steps_changed new old ts t k known root s seen now b m h = record { each = each }
  where
    each : (c : Context) → Means new (context_number (record ts { steps = t }) c) (context_type_at k known root (position s now) c)
    each context.Steps = m
    each c = means_stays new old _ _ b (h.each c)

-- where the same is seen all stay
pub same_seen : (types : Types) (ts : ContextTypes) (k : FileKind) (known : OutputNames) (root : Node) (s : Section) (seen now : Seen) →
    context_type_at k known root (position s now) context.Steps ≡ context_type_at k known root (position s seen) context.Steps →
    Shows types ts (context_type_at k known root (position s seen)) → Shows types ts (context_type_at k known root (position s now))
same_seen types ts k known root s seen now e h =
    steps_changed types types ts ts.steps k known root s seen now (begins_same (objects_of types) (objects_of types) refl)
    (means_as types _ _ _ (sym e) (h.each context.Steps)) h

-- the types of another section of a file with these jobs
pub section_changed : (new old : Types) (ts : ContextTypes) (st : SectionTypes) (t : Ty) (k : FileKind) (known : OutputNames) (root : Node) (s now : Section) (seen : Seen) →
    BeginsWith (objects_of new) (objects_of old) →
    AreOfSection new known (jobs_of root) now (job_in (jobs_of root) now) st →
    Means new t (context_type_at k known root (position now (before 0)) context.Steps) →
    Shows old ts (context_type_at k known root (position s seen)) →
    Shows new (record ts { strategy = st.strategy; needs = st.needs; jobs = st.jobs; matrix = st.matrix; steps = t })
    (context_type_at k known root (position now (before 0)))
section_changed new old ts st t k known root s now seen b a m h = record { each = each }
  where
    all : ContextTypes
    all = record ts { strategy = st.strategy; needs = st.needs; jobs = st.jobs; matrix = st.matrix; steps = t }

    each : (c : Context) → Means new (context_number all c) (context_type_at k known root (position now (before 0)) c)
    each context.Strategy = a.strategy
    each context.Needs = a.needs
    each context.Jobs = a.jobs
    each context.Steps = m
    each context.Matrix = a.matrix
    each c = means_stays new old _ _ b (h.each c)

-- ---- the start of a file

abbrev pub first_types : Ty → Ty → Ty → Ty → Ty → Ty → ContextTypes
first_types github strings runner job inputs steps = record {
  github = github;
  env = strings;
  vars = strings;
  secrets = strings;
  runner = runner;
  job = job;
  strategy = any;
  needs = any;
  jobs = any;
  steps = steps;
  matrix = any;
  inputs = inputs;
}

pub shows_first : (types : Types) (github strings runner job inputs steps : Ty) (k : FileKind) (known : OutputNames) (root : Node) →
    Means types github github_type → Means types strings loose_strings → Means types runner runner_type → Means types job job_type →
    Means types inputs (inputs_type k root) → Means types steps (context_type_at k known root (position apart (before 0)) context.Steps) →
    Shows types (first_types github strings runner job inputs steps) (context_type_at k known root (position apart (before 0)))
shows_first types github strings runner job inputs steps k known root g t r j i s = record { each = each }
  where
    each : (c : Context) → Means types (context_number (first_types github strings runner job inputs steps) c)
        (context_type_at k known root (position apart (before 0)) c)
    each context.Github = g
    each context.Env = t
    each context.Vars = t
    each context.Secrets = t
    each context.Runner = r
    each context.Job = j
    each context.Steps = s
    each context.Inputs = i
    each _ = any_means types

pub section_stays : (new old : Types) (known : OutputNames) (js : List (Scalar × Node)) (s : Section) (job : Option (Scalar × Node)) (st : SectionTypes) →
    BeginsWith (objects_of new) (objects_of old) → AreOfSection old known js s job st → AreOfSection new known js s job st
section_stays new old known js s job st b h = record {
  strategy = means_stays new old st.strategy _ b h.strategy;
  needs = means_stays new old st.needs _ b h.needs;
  jobs = means_stays new old st.jobs _ b h.jobs;
  matrix = means_stays new old st.matrix _ b h.matrix;
}
