-- The syntax of workflows and actions: the table, with one equation for each section.
use Prim.Native.String.{String}
use Rattle.std.specs.Prelude.{ℕ, List, [], ◌∷◌, ◌++◌, codes, map, Option, Some, None}
use Rattle.al_tree.specs.declared.table.Shape.{Shape}
use Rattle.al_tree.specs.declared.table.Shape.TheVariants.{Any, Text, Flag, Number, Texts, TextList}
use Rattle.al_tree.specs.declared.table.Shape.TheVariants.{TextMap, TextOrMap, AnyMap, Env}
use Rattle.al_tree.specs.declared.table.Shape.TheVariants.{Workflow, On, Defaults, RunDefaults}
use Rattle.al_tree.specs.declared.table.Shape.TheVariants.{Concurrency, Jobs, Job, RunsOn, Strategy}
use Rattle.al_tree.specs.declared.table.Shape.TheVariants.{Container, Steps, Step, Action, Runs}
use Rattle.al_tree.specs.declared.table.Shape.TheVariants.{NodeRuns, CompositeRuns, DockerRuns}
use Rattle.al_tree.specs.declared.table.Trigger.TheVariants.{Events, Event, Schedule, Cron}
use Rattle.al_tree.specs.declared.table.Trigger.TheVariants.{Dispatch, DispatchInputs}
use Rattle.al_tree.specs.declared.table.Trigger.TheVariants.{DispatchInput, Call}
use Rattle.al_tree.specs.declared.table.Trigger.TheVariants.{CallInputs, CallInput, CallSecrets}
use Rattle.al_tree.specs.declared.table.Trigger.TheVariants.{CallSecret, CallOutputs, CallOutput}
use Rattle.al_tree.specs.declared.table.ScalarSet.{ScalarSet}
use Rattle.al_tree.specs.declared.table.ScalarSet.TheVariants.{NoScalar, AnyScalar, NotNull, Bools}
use Rattle.al_tree.specs.declared.table.ScalarSet.TheVariants.{Numbers, Chunks}
use Rattle.al_tree.specs.declared.table.SectionKey.{SectionKey}
use Rattle.al_tree.specs.declared.table.Need as rust_need
use Rattle.al_tree.specs.declared.table.Clash as rust_clash
use Rattle.al_tree.specs.declared.table.Others as rust_others
use Rattle.al_tree.specs.declared.table.Keys as rust
use Rattle.al_tree.specs.declared.table.ShapeRule as rust_rule

-- whether a key is required: never, always, or unless another key is present
pub data Need : Type 0 where
  optional required : Need
  unless : List ℕ → Need

-- the key that a key isn't allowed beside: none, one before it, or one anywhere
pub data Clash : Type 0 where
  never : Clash
  after beside : List ℕ → Clash

-- a key of a mapping, and the shape of its value
pub record Field : Type 0 where
  pub key : List ℕ
  pub shape : Shape
  pub need : Need
  pub clash : Clash

-- what a key without a field is: unexpected; unexpected, and not allowed beside another key;
-- unchecked; or the name of an event
pub data Others : Type 0 where
  wrong : Others
  wrong_beside : List ℕ → Others
  unchecked events : Others

-- the mappings that are accepted: none, those with any keys and values of a shape, or those with
-- these keys
pub data Keys : Type 0 where
  no_keys : Keys
  free : Shape → Keys
  keys : Others → List Field → Keys

-- which scalars, sequences and mappings a shape accepts
pub record ShapeRule : Type 0 where
  pub scalars : ScalarSet
  pub items : Option Shape
  pub keys_of : Keys

abbrev pub field : Need → Clash → String → Shape → Field
field need clash key shape = record { key = codes key; shape = shape; need = need; clash = clash }

abbrev pub may : String → Shape → Field
may = field optional never

abbrev pub must : String → Shape → Field
must = field required never

abbrev pub not_beside : String → String → Shape → Field
not_beside other = field optional (beside (codes other))

-- two keys that exclude each other, where the later one is at fault
abbrev pub either : String → String → Shape → List Field
either one other shape =
    field optional (after (codes other)) one shape
    ∷ field optional (after (codes one)) other shape ∷ []

abbrev pub takes : ScalarSet → Option Shape → Keys → Option ShapeRule
takes set item ks = Some (record { scalars = set; items = item; keys_of = ks })

abbrev pub list_of : Shape → Option ShapeRule
list_of s = takes NoScalar (Some s) no_keys

abbrev pub map_of : Shape → Option ShapeRule
map_of s = takes NoScalar None (free s)

-- a mapping with these keys and no others
abbrev pub section : List Field → Option ShapeRule
section fs = takes NoScalar None (keys wrong fs)

-- The table. None accepts anything.
abbrev pub rule : Shape → Option ShapeRule
rule Any = None
rule Text = takes AnyScalar None no_keys
rule Flag = takes Bools None no_keys
rule Number = takes Numbers None no_keys
rule Texts = takes AnyScalar (Some Text) no_keys
rule TextList = list_of Text
rule TextMap = map_of Text
rule TextOrMap = takes AnyScalar None (free Text)
rule AnyMap = map_of Any
rule Env = takes Chunks None (free Text)
rule Workflow = section (
    may "name" Text ∷ may "run-name" Text ∷ must "on" (On Events) ∷ may "permissions" TextOrMap
    ∷ may "env" Env ∷ may "defaults" Defaults
    ∷ may "concurrency" Concurrency ∷ must "jobs" Jobs ∷ [])
rule (On Events) = takes NotNull (Some Text) (keys events (
    may "schedule" (On Schedule) ∷ may "workflow_dispatch" (On Dispatch)
    ∷ may "workflow_call" (On Call) ∷ may "image_version" Any ∷ []))
rule (On Schedule) = list_of (On Cron)
rule (On Cron) = section (must "cron" Text ∷ may "timezone" Text ∷ [])
rule (On Dispatch) = section (may "inputs" (On DispatchInputs) ∷ [])
rule (On DispatchInputs) = map_of (On DispatchInput)
rule (On DispatchInput) = section (
    may "description" Text ∷ may "required" Flag ∷ may "default" Text ∷ may "type" Text
    ∷ may "options" TextList
    ∷ may "deprecationMessage" Text ∷ [])
rule (On Call) =
    section (may "inputs" (On CallInputs) ∷ may "secrets" (On CallSecrets)
    ∷ may "outputs" (On CallOutputs) ∷ [])
rule (On CallInputs) = map_of (On CallInput)
rule (On CallInput) = section (
    may "description" Text ∷ may "required" Flag ∷ may "default" Text ∷ must "type" Text
    ∷ may "deprecationMessage" Text ∷ [])
rule (On CallSecrets) = map_of (On CallSecret)
rule (On CallSecret) = section (may "description" Text ∷ may "required" Flag ∷ [])
rule (On CallOutputs) = map_of (On CallOutput)
rule (On CallOutput) = section (may "description" Text ∷ must "value" Text ∷ [])
rule (On Event) = section (
    may "types" Texts ∷ may "workflows" Texts ∷ either "branches" "branches-ignore" Texts
    ++ either "tags" "tags-ignore" Texts
    ++ either "paths" "paths-ignore" Texts)
rule Defaults = section (may "run" RunDefaults ∷ [])
rule RunDefaults = section (may "shell" Text ∷ may "working-directory" Text ∷ [])
rule Concurrency =
    takes AnyScalar None (keys wrong (must "group" Text ∷ may "cancel-in-progress" Flag ∷ []))
rule Jobs = map_of Job
rule Job = takes NoScalar None (keys (wrong_beside (codes "uses")) (
    may "name" Text ∷ may "permissions" TextOrMap ∷ may "needs" Texts ∷ may "if" Text
    ∷ field (unless (codes "uses")) (beside (codes "uses")) "runs-on" RunsOn
    ∷ not_beside "uses" "environment" Any
    ∷ may "concurrency" Concurrency ∷ not_beside "uses" "outputs" TextMap
    ∷ not_beside "uses" "env" Env
    ∷ not_beside "uses" "defaults" Defaults ∷ not_beside "uses" "steps" Steps
    ∷ not_beside "uses" "timeout-minutes" Number
    ∷ may "strategy" Strategy ∷ not_beside "uses" "continue-on-error" Flag
    ∷ not_beside "uses" "container" Container
    ∷ not_beside "uses" "services" Any ∷ may "uses" Text ∷ may "with" TextMap
    ∷ may "secrets" TextOrMap ∷ not_beside "uses" "snapshot" Any
    ∷ []))
rule RunsOn = takes AnyScalar (Some Text) (keys wrong (may "group" Text ∷ may "labels" Texts ∷ []))
rule Strategy =
    takes Chunks None (keys wrong (may "matrix" Any ∷ may "fail-fast" Flag
    ∷ may "max-parallel" Number ∷ []))
rule Container = takes AnyScalar None (keys wrong (
    may "image" Text ∷ may "credentials" Any ∷ may "env" Env ∷ may "ports" Any ∷ may "volumes" Any
    ∷ may "options" Text ∷ []))
rule Steps = list_of Step
rule Step = section (
    may "id" Text ∷ may "if" Text ∷ may "name" Text
    ∷ field optional (after (codes "run")) "uses" Text
    ∷ field (unless (codes "uses")) (after (codes "uses")) "run" Text ∷ may "working-directory" Text
    ∷ may "shell" Text ∷ may "with" TextMap
    ∷ may "env" Env ∷ may "continue-on-error" Flag ∷ may "timeout-minutes" Number ∷ [])
rule Action = section (
    must "name" Text ∷ may "author" Text ∷ must "description" Text ∷ may "inputs" AnyMap
    ∷ may "outputs" AnyMap ∷ must "runs" Runs
    ∷ may "branding" Any ∷ [])
rule Runs = takes NoScalar None (keys unchecked (must "using" Text ∷ []))
rule NodeRuns = section (
    must "using" Text ∷ must "main" Text ∷ may "pre" Text ∷ may "pre-if" Text ∷ may "post" Text
    ∷ may "post-if" Text ∷ [])
rule CompositeRuns = section (must "using" Text ∷ must "steps" Steps ∷ [])
rule DockerRuns = section (
    must "using" Text ∷ must "image" Text ∷ may "env" TextMap ∷ may "entrypoint" Text
    ∷ may "pre-entrypoint" Text
    ∷ may "post-entrypoint" Text ∷ may "args" Any ∷ may "pre-if" Text ∷ may "post-if" Text ∷ [])

-- the meaning of the program's rows and rules
abbrev pub need_of : rust_need.Need → Need
need_of rust_need.TheVariants.May = optional
need_of rust_need.TheVariants.Must = required
need_of (rust_need.TheVariants.Unless k) = unless k.now

abbrev pub clash_of : rust_clash.Clash → Clash
clash_of rust_clash.TheVariants.Never = never
clash_of (rust_clash.TheVariants.After k) = after k.now
clash_of (rust_clash.TheVariants.Beside k) = beside k.now

abbrev pub field_view : SectionKey → Field
field_view r =
    record { key = r.key.now; shape = r.shape; need = need_of r.need; clash = clash_of r.clash }

abbrev pub others_of : rust_others.Others → Others
others_of rust_others.TheVariants.Wrong = wrong
others_of (rust_others.TheVariants.WrongBeside k) = wrong_beside k.now
others_of rust_others.TheVariants.Unchecked = unchecked
others_of rust_others.TheVariants.Events = events

abbrev pub keys_view : rust.Keys → Keys
keys_view rust.TheVariants.No = no_keys
keys_view (rust.TheVariants.Free s) = free s
keys_view (rust.TheVariants.These rows others) = keys (others_of others) (map field_view rows.now)

abbrev pub rule_view : rust_rule.ShapeRule → ShapeRule
rule_view r = record { scalars = r.scalars; items = r.items; keys_of = keys_view r.keys }
