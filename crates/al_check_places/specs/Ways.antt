-- Ways from the root of a file to a scalar, and which of them lead to expressions.
use Rattle.std.specs.Prelude.{ℕ, List, [], ◌∷◌, Bool, ◌&&◌, ◌==◌, not, map, Option, Some, None}
use Rattle.std.specs.Prelude.{length, if◌then◌else◌}
use Rattle.std.specs.List.{filter_map, list_any}
use Rattle.al_tree.specs.declared.files.FileKind.{FileKind}
use Rattle.al_tree.specs.declared.files.FileKind.TheVariants as kind
use Rattle.al_check_places.specs.Paths.{Path, path, is_path_prefix}
use Rattle.al_check_places.specs.declared.ways.WayStep as rust

-- a step of a way: to the value under a key, or to the nth item of a sequence
pub data WayStep : Type 0 where
  under : List ℕ → WayStep
  nth : ℕ → WayStep

abbrev pub step_key : WayStep → Option (List ℕ)
step_key (under k) = Some k
step_key (nth i) = None

-- the keys of a way, without positions
abbrev pub keys_of : List WayStep → List (List ℕ)
keys_of = filter_map step_key

abbrev pub begins_one : List Path → List (List ℕ) → Bool
begins_one paths ks = list_any (λ p. is_path_prefix p ks) paths

abbrev pub is_one : List Path → List (List ℕ) → Bool
is_one paths ks = list_any (λ p. (length p == length ks) && is_path_prefix p ks) paths

-- In a workflow: everything except `needs`, `id` and `uses`; below `on` only the defaults and
-- values of `workflow_call`.
abbrev pub is_checked_in_workflow : List (List ℕ) → Bool
is_checked_in_workflow ks =
    if is_path_prefix (path "on") ks
    then begins_one (map path ("on.workflow_call.inputs.*.default"
    ∷ "on.workflow_call.outputs.*.value" ∷ [])) ks
    else not (begins_one (map path ("jobs.*.needs" ∷ "jobs.*.uses" ∷ "jobs.*.steps.id"
    ∷ "jobs.*.steps.uses" ∷ [])) ks)

-- In an action: the defaults of inputs, the values of outputs, and everything below `runs` except
-- `using`, `id` and `uses`. A default or value is checked only if it is itself a scalar: its way
-- has no further key and no position.
abbrev pub is_checked_in_action : ℕ → List (List ℕ) → Bool
is_checked_in_action steps ks =
    if is_path_prefix (path "runs") ks then
    not (begins_one (map path ("runs.using" ∷ "runs.steps.id" ∷ "runs.steps.uses" ∷ [])) ks)
    else begins_one (map path ("inputs.*.default" ∷ "outputs.*.value" ∷ [])) ks && (steps == 3)

abbrev pub is_checked : FileKind → List WayStep → Bool
is_checked kind.Workflow way = is_checked_in_workflow (keys_of way)
is_checked kind.Action way = is_checked_in_action (length way) (keys_of way)

-- ways to conditions, and to scripts of steps
abbrev pub conditions : List Path
conditions =
    map path ("jobs.*.if" ∷ "jobs.*.steps.if" ∷ "runs.steps.if" ∷ "runs.pre-if"
    ∷ "runs.post-if" ∷ [])

abbrev pub scripts : List Path
scripts = map path ("jobs.*.steps.run" ∷ "runs.steps.run" ∷ [])

-- the meaning of a step of the program's ways
abbrev pub way_step_view : rust.WayStep → WayStep
way_step_view (rust.TheVariants.Under k) = under k.now
way_step_view (rust.TheVariants.Nth i) = nth i
