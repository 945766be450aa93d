use Rattle.std.proofs.Common.{◌≡◌, ◌+◌, ◌<◌, ℕ, get_or, length}
use Rattle.al_base.specs.Growth.{BeginsWith}
use Rattle.al_expr_types.specs.Tables.{objects_of}
use Rattle.al_check_contexts.specs.Lookups.{step_at}
use Rattle.al_check_contexts.specs.Made.{known_from}
use Rattle.al_check_contexts.specs.Caches.{Keeps}
use Rattle.al_check_objects.specs.Numbers.{Lists}
use Rattle.al_check_contexts.specs.Private.Owners.{owner_view}
use Rattle.al_check_contexts.specs.Steps.{IsCount, first_fields}
use Rattle.al_check_contexts.proofs.steps.StepFields.of.Given as goal

abbrev pub invariant-loop-i : goal.invariant-loop-i
invariant-loop-i l = record {
  fields : Lists l.types l.fields (first_fields (known_from l.basis) (owner_view l.owner) l.i);
  all : length l.counts.items ≡ l.i + 1;
  counts : (k : ℕ) → k < length l.counts.items →
      IsCount (first_fields (known_from l.basis) (owner_view l.owner) l.i) (get_or l.counts.items k 0) (first_fields (known_from l.basis) (owner_view l.owner) k);
  keeps : Keeps l.types (step_at l.basis.outputs) l.made;
  kept : BeginsWith (objects_of l.types) (objects_of l.fn.types);
}
