-- Lookups in maps that are made once per file.
use Rattle.std.specs.Prelude.{ℕ, List, [], ◌∷◌, Option, Some, codes, map, option_map}
use Rattle.std.specs.Prelude.{option_and_then, slice_get, if◌then◌else◌}
use Rattle.std.specs.BTreeMap.{get_by}
use Rattle.std.specs.Cmp.Lexicographic.{slice_cmp}
use Rattle.std.specs.Option.{option_cmp, option_copied, option_map_or}
use Rattle.std.specs.Ordering.{nat_cmp, ordering_then}
use Rattle.al_types.specs.Strings.{named_strings}
use Rattle.al_types.specs.Types.{Type', Any, String}
use Rattle.al_scalar.specs.Scalar.{Scalar}
use Rattle.al_yaml_tree.specs.Node.{Node}
use Rattle.al_check_contexts.specs.Answered.{OutputsOfCall, is_call_at}
use Rattle.al_check_contexts.specs.Contexts.{OutputNames, job_field, step_type}
use Rattle.al_check_objects.specs.Objects.{loose_any, loose_strings, strictly}
use Rattle.al_check_contexts.specs.declared.known.Outputs.{Outputs}

-- the names in the answer for a job or a step, if there is one; Some None if nothing is known of
-- them
abbrev pub Found : Type 0
Found = Option (List ℕ) → Option ℕ → Option (Option (List (List ℕ)))

-- the lists of names, and the one at a position
abbrev pub lists_of : Outputs → List (List (List ℕ))
lists_of o = map (λ l. l.now) o.lists.now

abbrev pub list_at : Outputs → ℕ → Option (List (List ℕ))
list_at o = slice_get (lists_of o)

unfoldable pub found_at : Outputs → Found
found_at o job step =
    option_map (option_and_then (list_at o)) (get_by
    (λ k. ordering_then (option_cmp (slice_cmp nat_cmp) job (option_copied k.0))
    (option_cmp nat_cmp step k.1)) o.positions)

-- with one more answer before the others
abbrev pub and_found : OutputsOfCall → Found → Found
and_found b found job step = if is_call_at job step b then Some b.names else found job step

abbrev pub known_by : Outputs → OutputNames
known_by o job step = option_and_then (λ names. names) (found_at o job step)

-- the type of a step, by the position of its list of outputs
abbrev pub step_at : Outputs → ℕ → Type'
step_at o i = step_type (option_map_or named_strings (list_at o i) loose_strings)

-- the type of a job whose outputs have a type
abbrev pub shown_with : Type' → Type'
shown_with outputs = strictly ((codes "result", String) ∷ (codes "outputs", outputs) ∷ [])

-- the type of a job that calls a workflow, by the position of its list of outputs
abbrev pub called_at : Outputs → ℕ → Type'
called_at o i = shown_with (option_map_or named_strings (list_at o i) loose_any)

-- the type of the job at a position
abbrev pub shown_at : Outputs → List (Scalar × Node) → ℕ → Type'
shown_at o js i = option_map_or (λ j. (job_field (known_by o) j).1) (slice_get js i) Any
