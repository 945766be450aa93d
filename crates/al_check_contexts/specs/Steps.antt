-- The fields of `steps` by counts of steps.
use Rattle.std.specs.Prelude.{◌≡◌, ◌+◌, ◌<◌, ◌≤◌, ℕ, List, [], true, Option, Some, None, get_or}
use Rattle.std.specs.Prelude.{length, take}
use Rattle.std.specs.List.{enumerate_from, filter_map}
use Rattle.al_types.specs.Puts.{TypedName, firsts}
use Rattle.al_check_contexts.specs.Contexts.{OutputNames, Owner, step_field}
use Rattle.al_expr_types.specs.Prefixes.{HasPrefix, map_in}
use Rattle.al_expr_types.specs.Tables.{objects_of}
use Rattle.al_expr_types.specs.declared.types.Types.{Types}
use Rattle.al_expr_types.specs.FieldMaps.{fields_in, is_map_below}
use Rattle.al_check_contexts.specs.declared.steps.StepFields.{StepFields}

-- the fields of this many first steps
abbrev pub first_fields : OutputNames → Owner → ℕ → List TypedName
first_fields known o k = firsts (filter_map (step_field known o.0) (enumerate_from 0 (take k o.1)))

-- there are at least this many fields, and the first of them are these
abbrev pub IsCount : List TypedName → ℕ → List TypedName → Type 0
IsCount ts n us = (n ≤ length ts) × (take n ts ≡ us)

-- each prefix of some steps has a count: as many first fields are the fields of the prefix
pub record AreSteps (types : Types) (known : OutputNames) (o : Owner) (s : StepFields) :
    Type 0 where
  pub all : length s.counts.items ≡ length o.1 + 1
  pub counts : (k : ℕ) → k < length s.counts.items →
      IsCount (fields_in (objects_of types) (map_in s.prefixes)) (get_or s.counts.items k 0)
      (first_fields known o k)

-- the same for the steps of an owner; without an owner there are no counts
abbrev pub AreStepsOf : Types → OutputNames → Option Owner → StepFields → Type 0
AreStepsOf types known None s = s.counts.items ≡ []
AreStepsOf types known (Some o) s = AreSteps types known o s

-- the fields and the base refer to the table, and no count exceeds the fields
pub record ArePrefixes (types : Types) (s : StepFields) : Type 0 where
  pub below : is_map_below (length types.objects.items) (map_in s.prefixes) ≡ true
  pub base : HasPrefix types (map_in s.prefixes) s.prefixes.base
  pub inside : (k : ℕ) → k < length s.counts.items → get_or s.counts.items k 0
      ≤ length (map_in s.prefixes).types.items
