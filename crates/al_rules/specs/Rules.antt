-- The faults of the rules, of a workflow and of an action.
use Rattle.std.specs.Prelude.{List, [], ◌∷◌, ◌++◌, codes, map, Option, if◌then◌else◌}
use Rattle.std.specs.Prelude.{is_some, option_map}
use Rattle.std.specs.Prelude.{option_and_then}
use Rattle.std.specs.List.{flat_map, filter_map}
use Rattle.std.specs.Option.{option_map_or}
use Rattle.al_base.specs.declared.codes.RuleCode.TheVariants.{MissingOutputValue, MissingShell}
use Rattle.al_base.specs.declared.codes.RuleCode.TheVariants.{UnknownUsing}
use Rattle.al_base.specs.declared.faults.Fault.{Fault}
use Rattle.al_scalar.specs.Scalar.{Scalar}
use Rattle.al_yaml_tree.specs.Access.{scalar_in}
use Rattle.al_yaml_tree.specs.Node.{Node}
use Rattle.al_tree.specs.Faults.{runs_of}
use Rattle.al_tree.specs.Values.{entries_at, items_at, key_at, text_at_key, text_below, value_at}
use Rattle.al_tree.specs.Values.{value_below}
use Rattle.al_tree.specs.Files.{jobs_of}
use Rattle.al_tree.specs.declared.table.Shape.{Shape}
use Rattle.al_tree.specs.declared.table.Shape.TheVariants.{CompositeRuns, DockerRuns, NodeRuns}
use Rattle.al_tree.specs.declared.files.FileKind.{FileKind}
use Rattle.al_tree.specs.declared.files.FileKind.TheVariants as kind
use Rattle.al_rules.specs.Events.{on_faults}
use Rattle.al_rules_settings.specs.Ids.{ids_faults}
use Rattle.al_rules_settings.specs.Matrix.{matrix_faults}
use Rattle.al_rules.specs.Needs.{job_keys, needs_faults}
use Rattle.al_rules_settings.specs.Settings.{condition_faults, credentials_faults, env_faults}
use Rattle.al_rules_settings.specs.Settings.{permissions_faults, script_faults, shell_faults}
use Rattle.al_rules_settings.specs.Words.{Named, about, of_scalar, rule_fault}

-- the faults of a step
abbrev pub step_faults : Node → List Fault
step_faults step =
    env_faults step ++ condition_faults (text_at_key (codes "if") step)
    ++ shell_faults (text_at_key (codes "shell") step)
    ++ script_faults (text_at_key (codes "run") step)

abbrev pub steps_faults : List Node → List Fault
steps_faults steps = ids_faults (map of_scalar (filter_map (text_at_key (codes "id")) steps))
    ++ flat_map step_faults steps

-- the faults of a container or a service
abbrev pub container_faults : Node → List Fault
container_faults c = env_faults c ++ credentials_faults c

-- the faults of a workflow or a job as a section
abbrev pub section_faults : Node → List Fault
section_faults n =
    permissions_faults n ++ env_faults n
    ++ shell_faults (text_below (codes "defaults" ∷ codes "run" ∷ codes "shell" ∷ []) n)

abbrev pub containers_faults : Node → List Fault
containers_faults job =
    option_map_or container_faults (value_at (codes "container") job) []
    ++ flat_map (λ m. container_faults m.1) (entries_at (codes "services") job)

abbrev pub settings_faults : Node → List Fault
settings_faults job =
    section_faults job ++ condition_faults (text_at_key (codes "if") job)
    ++ option_map_or matrix_faults (value_below (codes "strategy" ∷ codes "matrix" ∷ []) job) []

abbrev pub job_faults : Scalar × Node → List Fault
job_faults j = settings_faults j.1 ++ containers_faults j.1
    ++ steps_faults (items_at (codes "steps") j.1)

-- the faults of a workflow
abbrev pub workflow_faults : Node → List Fault
workflow_faults root =
    option_map_or on_faults (value_at (codes "on") root) [] ++ section_faults root
    ++ ids_faults (job_keys (jobs_of root)) ++ needs_faults (jobs_of root)
    ++ flat_map job_faults (jobs_of root)

-- a step of a composite action that runs a script and names no shell
abbrev pub no_shell_faults : Node → List Fault
no_shell_faults step =
    if is_some (value_at (codes "shell") step) then []
    else option_map_or (λ key. rule_fault MissingShell key.span []
    ∷ []) (key_at (codes "run") step) []

-- an output of a composite action without a value
abbrev pub output_faults : Scalar × Node → List Fault
output_faults m = if is_some (value_at (codes "value") m.1) then []
    else about MissingOutputValue (of_scalar m.0)

abbrev pub composite_faults : Node → Node → List Fault
composite_faults root runs =
    steps_faults (items_at (codes "steps") runs)
    ++ flat_map no_shell_faults (items_at (codes "steps") runs)
    ++ flat_map output_faults (entries_at (codes "outputs") root)

abbrev pub hooks_faults : Node → List Fault
hooks_faults runs = condition_faults (text_at_key (codes "pre-if") runs)
    ++ condition_faults (text_at_key (codes "post-if") runs)

-- the faults by the section that `runs` is; if that is unknown, only `using` is checked
abbrev pub using_faults : Node → Node → Named → Shape → List Fault
using_faults root runs using_name NodeRuns = hooks_faults runs
using_faults root runs using_name DockerRuns = env_faults runs ++ hooks_faults runs
using_faults root runs using_name CompositeRuns = composite_faults root runs
using_faults root runs using_name _ = about UnknownUsing using_name

-- `using` as a scalar, null too
abbrev pub scalar_of_value : Node → Option Named
scalar_of_value n = option_map of_scalar (scalar_in n)

abbrev pub runs_faults : Node → Node → List Fault
runs_faults root runs =
    option_map_or (λ n. using_faults root runs n (runs_of n.text))
    (option_and_then scalar_of_value (value_at (codes "using") runs)) []

abbrev pub action_faults : Node → List Fault
action_faults root = option_map_or (runs_faults root) (value_at (codes "runs") root) []

-- the faults of the rules in a file of this kind with this root
abbrev pub rule_faults : FileKind → Node → List Fault
rule_faults kind.Workflow root = workflow_faults root
rule_faults kind.Action root = action_faults root
