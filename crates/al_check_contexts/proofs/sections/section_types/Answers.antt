use Rattle.al_base.proofs.Growing.{begins_trans}
use Rattle.al_expr_types.specs.Tables.{objects_of}
use Rattle.al_check_contexts.specs.Made.{jobs_from}
use Rattle.al_check_contexts.proofs.JobLemmas.{keeps_jobs_stay}
use Rattle.al_check_objects.proofs.Numbers.{means_stays}
use Rattle.al_check_contexts.proofs.sections.section_types.Goals as goal

pub returns-clause-types : goal.returns-clause-types
returns-clause-types c =
    let entry = c.args.types.now in
    let one = c.jobs_at.new.types in
    let two = c.needs_type.new.types in
    let now = c.matrix_type.new.types in
    let from_one = begins_trans (objects_of one) (objects_of two) (objects_of now) c.in_ok-needs.ensures.made.kept c.in_ok-matrix.ensures.kept in
    let from_entry = begins_trans (objects_of entry) (objects_of one) (objects_of now) c.in_ok-jobs.ensures.made.kept from_one in
    rw c.in-Some.is (record {
      strategy = means_stays now entry c.args.basis.now.strategy _ from_entry c.requires.strategy;
      needs = means_stays now two c.in_ok-needs.needs _ c.in_ok-matrix.ensures.kept c.in_ok-needs.ensures.made.ty;
      jobs = means_stays now one c.in_ok-jobs.jobs _ from_one c.in_ok-jobs.ensures.made.ty;
      matrix = c.in_ok-matrix.ensures.ty;
    })

pub returns-clause-keeps : goal.returns-clause-keeps
returns-clause-keeps c =
    keeps_jobs_stay c.matrix_type.new.types c.needs_type.new.types c.args.basis.now.outputs (jobs_from c.args.basis.now) c.needs_type.new.self
    c.in_ok-matrix.ensures.kept c.in_ok-needs.ensures.keeps
