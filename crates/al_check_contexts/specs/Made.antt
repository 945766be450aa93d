-- The types that are made once per file.
use Rattle.std.specs.Prelude.{◌≡◌, List, [], Option, Some, map}
use Rattle.al_scalar.specs.Scalar.{Scalar}
use Rattle.al_yaml_tree.specs.Node.{Node}
use Rattle.al_tree.specs.Values.{member_of}
use Rattle.al_check_contexts.specs.Contexts.{OutputNames, jobs_type}
use Rattle.al_expr_types.specs.declared.ty.Ty.{Ty}
use Rattle.al_expr_types.specs.declared.types.Types.{Types}
use Rattle.al_types.specs.Strings.{named_strings}
use Rattle.al_check_contexts.specs.Lookups.{called_at, known_by, shown_at, shown_with}
use Rattle.al_check_contexts.specs.Caches.{Keeps}
use Rattle.al_check_objects.specs.Numbers.{Means}
use Rattle.al_check_contexts.specs.declared.basis.Basis.{Basis}
use Rattle.al_check_contexts.specs.declared.jobs.JobTypes.{JobTypes}
use Rattle.al_check_contexts.specs.declared.known.Outputs.{Outputs}

-- the kept type of jobs without outputs is right
pub record KeepsBare (types : Types) (made : Option Ty) : Type 0 where
  pub each : (t : Ty) → made ≡ Some t → Means types t (shown_with (named_strings []))

-- each kept type of a job is that of its position
pub record KeepsJobs (types : Types) (known : Outputs) (js : List (Scalar × Node)) (m : JobTypes) :
    Type 0 where
  pub calls : Keeps types (called_at known) m.calls
  pub shown : Keeps types (shown_at known js) m.shown
  pub bare : KeepsBare types m.bare
  pub all : (t : Ty) → m.all ≡ Some t → Means types t (jobs_type (known_by known) js)

-- the jobs of a basis, and what is known in it
abbrev pub jobs_from : Basis → List (Scalar × Node)
jobs_from b = map member_of b.jobs.members.items

abbrev pub known_from : Basis → OutputNames
known_from b = known_by b.outputs

abbrev pub KeepsJobsOf : Types → Basis → JobTypes → Type 0
KeepsJobsOf types b m = KeepsJobs types b.outputs (jobs_from b) m
