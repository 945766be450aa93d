use Rattle.std.proofs.Common.{[], map, take}
use Rattle.std.specs.List.{filter_map}
use Rattle.al_base.specs.Growth.{BeginsWith}
use Rattle.al_scalar.specs.Scalar.{text_of}
use Rattle.al_types.specs.Puts.{put_all, put_new}
use Rattle.al_expr_types.specs.Tables.{objects_of}
use Rattle.al_check_contexts.specs.Contexts.{dependency}
use Rattle.al_check_contexts.specs.Made.{KeepsJobsOf, jobs_from, known_from}
use Rattle.al_check_objects.specs.Numbers.{Lists}
use Rattle.al_check_contexts.proofs.jobs.JobTypes.needs_type.Given as goal

abbrev pub invariant-loop-name : goal.invariant-loop-name
invariant-loop-name l = record {
  fields : Lists l.types l.fields (put_all put_new []
      (filter_map (λ s. dependency (known_from l.basis) (jobs_from l.basis) (text_of s)) (map (λ s. s.now) (take l.name-index l.name-items))));
  keeps : KeepsJobsOf l.types l.basis l.self;
  kept : BeginsWith (objects_of l.types) (objects_of l.fn.types);
}
