use Rattle.std.proofs.Common.{None, map}
use Rattle.al_base.proofs.Growing.{begins_trans}
use Rattle.al_check_objects.specs.Fixed.{strategy_type}
use Rattle.al_check_contexts.specs.Answered.{known_of}
use Rattle.al_check_contexts.specs.Contexts.{owner_of}
use Rattle.al_tree.specs.Values.{member_of}
use Rattle.al_yaml_tree.specs.View.{view}
use Rattle.al_expr_types.specs.Tables.{objects_of}
use Rattle.al_check_contexts.specs.Lookups.{step_at}
use Rattle.al_check_contexts.proofs.Kept.{keeps_stays}
use Rattle.al_check_objects.proofs.Numbers.{means_stays}
use Rattle.al_check_contexts.proofs.StepLemmas.{prefixes_stay, steps_stay}
use Rattle.al_check_contexts.proofs.env.Env.new.Goals as goal

pub of-requires-3 : goal.of-requires-3
of-requires-3 c = c.in_ok-step_types.ensures c.strategy_type.new.types (step_at c.in_ok-outputs.outputs)

pub returns-clause-at : goal.returns-clause-at
returns-clause-at c =
    let kind = c.args.file.kind in
    let root = view c.args.file.root.now in
    let outputs = c.in_ok-outputs.outputs in
    let known = known_of c.args.file.known in
    let owner = owner_of kind root None in
    let zero = c.strategy_type.new.types in
    let one = c.of-3.new.types in
    let two = c.first.new.types in
    let now = c.first_types.new.types in
    let first = c.in_ok-none_seen.ensures in
    let of_owner = rw (c.in_ok-outputs.ensures, c.owner_at-owner.ensures) at c.in_ok-steps.ensures.steps in
    let from_two = c.in_ok-contexts.ensures.kept in
    let from_one = begins_trans (objects_of one) (objects_of two) (objects_of now) first.kept from_two in
    let from_zero = begins_trans (objects_of zero) (objects_of one) (objects_of now) c.in_ok-steps.ensures.kept from_one in
    record {
      jobs = c.in_ok-jobs.ensures;
      shows = c.in_ok-contexts.ensures.types known (first.ty known owner of_owner);
      steps = steps_stay now two known owner c.first.new.self from_two first.prefixes (first.steps known owner of_owner);
      prefixes = prefixes_stay now two c.first.new.self from_two first.prefixes;
      strategy = means_stays now zero c.in_ok-strategy.strategy strategy_type from_zero c.in_ok-strategy.ensures.ty;
      job_types = c.in_ok-job_types.ensures now outputs (map member_of c.in_ok-jobs.jobs.members.items);
      step_types = keeps_stays now one (step_at outputs) c.of-3.new.made from_one c.in_ok-steps.ensures.keeps;
    }
