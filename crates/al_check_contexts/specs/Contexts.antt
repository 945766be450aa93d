-- The type of each context at a position of a file.
use Rattle.std.specs.Prelude.{ℕ, List, [], ◌∷◌, codes, map, take, Option, Some, None, option_map}
use Rattle.std.specs.Prelude.{find, if◌then◌else◌}
use Rattle.std.specs.List.{filter_map, enumerate_from}
use Rattle.std.specs.Option.{option_map_or}
use Rattle.std.specs.Str.{bytes_eq}
use Rattle.al_scalar.specs.Scalar.{Scalar, text_of}
use Rattle.al_base.specs.Names.{same_name}
use Rattle.al_types.specs.Types.{Type', Any, String}
use Rattle.al_expr_names.specs.declared.names.Context.{Context}
use Rattle.al_expr_names.specs.declared.names.Context.TheVariants as context
use Rattle.al_yaml_tree.specs.Node.{Node}
use Rattle.al_tree.specs.Keys.{key_of, keys_in}
use Rattle.al_tree.specs.Values.{entries_at, items_at, text_at_key, texts_at}
use Rattle.al_tree.specs.Files.{jobs_of}
use Rattle.al_tree.specs.declared.files.FileKind.{FileKind}
use Rattle.al_tree.specs.declared.files.FileKind.TheVariants as kind
use Rattle.al_check_places.specs.Positions.{Position, Section, apart, in_job}
use Rattle.al_check_places.specs.declared.positions.Seen.{Seen}
use Rattle.al_check_places.specs.declared.positions.Seen.TheVariants.{Nothing as no_step}
use Rattle.al_check_places.specs.declared.positions.Seen.TheVariants.{Before as before}
use Rattle.al_check_places.specs.declared.positions.Seen.TheVariants.{Everything as every_step}
use Rattle.al_tree.specs.Declarations.{action_steps, has_value, is_composite}
use Rattle.al_check_objects.specs.Fixed.{github_type, runner_type, job_type, strategy_type}
use Rattle.al_check_objects.specs.Inputs.{inputs_type}
use Rattle.al_check_objects.specs.Matrix.{matrix_type}
use Rattle.al_types.specs.Strings.{named_strings}
use Rattle.al_check_objects.specs.Objects.{strictly, loose_strings, loose_any}
use Rattle.al_types.specs.Puts.{TypedName, firsts}

-- What is known of the names of the outputs of calls: of a job by its key, of a step by its index
-- and the key of its job, or without a key in an action. None if nothing is known.
abbrev pub OutputNames : Type 0
OutputNames = Option (List ℕ) → Option ℕ → Option (List (List ℕ))

abbrev pub nothing_known : OutputNames
nothing_known job step = None

-- `steps`: each step with an id, among those that are seen; the first of those with equal ids
abbrev pub step_type : Type' → Type'
step_type outputs =
    strictly ((codes "conclusion", String) ∷ (codes "outcome", String)
    ∷ (codes "outputs", outputs) ∷ [])

abbrev pub step_field : OutputNames → Option (List ℕ) → ℕ × Node → Option TypedName
step_field known job s =
    let outputs = option_map_or named_strings (known job (Some s.0)) loose_strings in
    option_map (λ id. (text_of id, step_type outputs)) (text_at_key (codes "id") s.1)

abbrev pub seen_of : Seen → List Node → List Node
seen_of no_step steps = []
seen_of (before n) steps = take n steps
seen_of every_step steps = steps

-- steps, with the key of the job that they belong to, or none for an action
abbrev pub Owner : Type 0
Owner = Option (List ℕ) × List Node

abbrev pub steps_type : OutputNames → Option Owner → Seen → Type'
steps_type known owner seen =
    option_map_or (λ o. strictly (firsts
    (filter_map (step_field known o.0) (enumerate_from 0 (seen_of seen o.1))))) owner Any

-- a job as others see it: its result, and its outputs, which are those of the called workflow if it
-- calls one
abbrev pub job_outputs : OutputNames → Scalar × Node → Type'
job_outputs known j =
    if has_value (codes "uses") j.1 then
    option_map_or named_strings (known (Some (key_of j)) None) loose_any
    else named_strings (keys_in (entries_at (codes "outputs") j.1))

abbrev pub job_field : OutputNames → Scalar × Node → TypedName
job_field known j =
    (key_of j, strictly ((codes "result", String) ∷ (codes "outputs", job_outputs known j) ∷ []))

abbrev pub jobs_type : OutputNames → List (Scalar × Node) → Type'
jobs_type known jobs = strictly (firsts (map (job_field known) jobs))

-- `needs`: the direct dependencies that exist; a name refers to the first job with it, ignoring
-- ASCII case
abbrev pub dependency : OutputNames → List (Scalar × Node) → List ℕ → Option TypedName
dependency known jobs name =
    option_map (job_field known) (find (λ j. same_name (key_of j) name) jobs)

abbrev pub needs_type : OutputNames → List (Scalar × Node) → Node → Type'
needs_type known jobs job =
    strictly (firsts (filter_map (λ s. dependency known jobs (text_of s))
    (texts_at (codes "needs") job)))

-- the job of a section, with its key, if there is one
abbrev pub job_in : List (Scalar × Node) → Section → Option (Scalar × Node)
job_in jobs (in_job k) = find (λ j. bytes_eq (key_of j) k) jobs
job_in jobs _ = None

-- the steps of a job, or of a composite action
abbrev pub owner_of : FileKind → Node → Option (Scalar × Node) → Option Owner
owner_of kind.Workflow root job =
    option_map (λ j. (Some (key_of j), items_at (codes "steps") j.1)) job
owner_of kind.Action root job = if is_composite root then Some (None, action_steps root) else None

abbrev pub jobs_in : OutputNames → List (Scalar × Node) → Section → Type'
jobs_in known jobs apart = Any
jobs_in known jobs _ = jobs_type known jobs

-- The table of contexts. Some are the same in every file; the others are any outside of what they
-- belong to, a job or the steps of a job or of a composite action. An action has only the section
-- `apart`.
abbrev pub context_type_at : FileKind → OutputNames → Node → Position → Context → Type'
context_type_at k known root p context.Github = github_type
context_type_at k known root p context.Env = loose_strings
context_type_at k known root p context.Vars = loose_strings
context_type_at k known root p context.Secrets = loose_strings
context_type_at k known root p context.Runner = runner_type
context_type_at k known root p context.Job = job_type
context_type_at k known root p context.Strategy =
    option_map_or (λ j. strategy_type) (job_in (jobs_of root) p.section) Any
context_type_at k known root p context.Needs =
    option_map_or (λ j. needs_type known (jobs_of root) j.1) (job_in (jobs_of root) p.section) Any
context_type_at k known root p context.Jobs = jobs_in known (jobs_of root) p.section
context_type_at k known root p context.Steps =
    steps_type known (owner_of k root (job_in (jobs_of root) p.section)) p.seen
context_type_at k known root p context.Matrix =
    option_map_or (λ j. matrix_type j.1) (job_in (jobs_of root) p.section) Any
context_type_at k known root p context.Inputs = inputs_type k root
