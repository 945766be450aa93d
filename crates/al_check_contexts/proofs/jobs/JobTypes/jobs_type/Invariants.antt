use Rattle.std.proofs.Common.{[], map, take}
use Rattle.al_base.specs.Growth.{BeginsWith}
use Rattle.al_tree.specs.Values.{member_of}
use Rattle.al_types.specs.Puts.{put_all, put_new}
use Rattle.al_expr_types.specs.Tables.{objects_of}
use Rattle.al_check_contexts.specs.Contexts.{job_field}
use Rattle.al_check_contexts.specs.Made.{KeepsJobsOf, known_from}
use Rattle.al_check_objects.specs.Numbers.{Lists}
use Rattle.al_check_contexts.proofs.jobs.JobTypes.jobs_type.Given as goal

abbrev pub invariant-loop-i : goal.invariant-loop-i
invariant-loop-i l = record {
  fields : Lists l.types l.fields (put_all put_new [] (map (job_field (known_from l.basis)) (map member_of (take l.i l.members))));
  keeps : KeepsJobsOf l.types l.basis l.self;
  kept : BeginsWith (objects_of l.types) (objects_of l.fn.types);
}
