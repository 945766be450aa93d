use Rattle.al_base.proofs.Growing.{begins_trans}
use Rattle.al_yaml_tree.specs.View.{view}
use Rattle.al_expr_types.specs.Tables.{objects_of}
use Rattle.al_check_objects.proofs.Numbers.{means_stays}
use Rattle.al_check_contexts.proofs.TableLemmas.{shows_first}
use Rattle.al_check_contexts.proofs.start.first_types.Goals as goal

pub returns-clause-types : goal.returns-clause-types
returns-clause-types c = λ known h.
    let entry = c.args.types.now in
    let one = c.github_type.new.types in
    let two = c.object_of.new.types in
    let three = c.runner_type.new.types in
    let four = c.job_type.new.types in
    let now = c.inputs_type.new.types in
    let from_three = begins_trans (objects_of three) (objects_of four) (objects_of now) c.in_ok-job.ensures.kept c.in_ok-inputs.ensures.kept in
    let from_two = begins_trans (objects_of two) (objects_of three) (objects_of now) c.in_ok-runner.ensures.kept from_three in
    let from_one = begins_trans (objects_of one) (objects_of two) (objects_of now) c.in_ok-strings.ensures.kept from_two in
    let from_entry = begins_trans (objects_of entry) (objects_of one) (objects_of now) c.in_ok-github.ensures.kept from_one in
    shows_first now c.in_ok-github.github c.in_ok-strings.strings c.in_ok-runner.runner c.in_ok-job.job c.in_ok-inputs.inputs c.args.steps
    c.args.file.kind known (view c.args.file.root.now)
    (means_stays now one c.in_ok-github.github _ from_one c.in_ok-github.ensures.ty)
    (means_stays now two c.in_ok-strings.strings _ from_two c.in_ok-strings.ensures.ty)
    (means_stays now three c.in_ok-runner.runner _ from_three c.in_ok-runner.ensures.ty)
    (means_stays now four c.in_ok-job.job _ c.in_ok-inputs.ensures.kept c.in_ok-job.ensures.ty)
    c.in_ok-inputs.ensures.ty (means_stays now entry c.args.steps _ from_entry h)
