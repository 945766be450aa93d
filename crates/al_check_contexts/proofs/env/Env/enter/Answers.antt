use Rattle.std.proofs.Common.{refl}
use Rattle.al_base.proofs.Growing.{begins_trans}
use Rattle.al_check_places.specs.Positions.{section_view}
use Rattle.al_check_places.specs.declared.positions.Seen.TheVariants.{Before as before}
use Rattle.al_check_objects.specs.Fixed.{strategy_type}
use Rattle.al_yaml_tree.specs.View.{view}
use Rattle.al_expr_types.specs.Tables.{objects_of}
use Rattle.al_check_contexts.specs.Answered.{known_of}
use Rattle.al_check_contexts.specs.Environments.{file_of, owner_in}
use Rattle.al_check_contexts.specs.Lookups.{step_at}
use Rattle.al_check_contexts.specs.Made.{jobs_from}
use Rattle.al_check_contexts.proofs.JobLemmas.{keeps_jobs_stay}
use Rattle.al_check_contexts.proofs.Kept.{keeps_stays}
use Rattle.al_check_objects.proofs.Numbers.{means_stays}
use Rattle.al_check_contexts.proofs.TableLemmas.{section_changed, section_stays}
use Rattle.al_check_contexts.proofs.env.Env.enter.Goals as goal

pub of-requires : goal.of-requires
of-requires c =
    let env = c.args.self.now in
    keeps_stays c.section_types.new.types env.types (step_at env.basis.outputs) env.step_types c.in_ok-made.ensures.kept c.requires.step_types

pub returns-clause-moved : goal.returns-clause-moved
returns-clause-moved c =
    let env = c.args.self.now in
    let was = c.requires in
    let basis = env.basis in
    let file = file_of env in
    let known = known_of file.known in
    let root = view file.root.now in
    let js = jobs_from basis in
    let there = section_view c.args.section in
    let one = c.section_types.new.types in
    let two = c.of.new.types in
    let now = c.first.new.types in
    let made = c.in_ok-made.ensures in
    let steps = c.in_ok-steps.ensures in
    let seen = c.in_ok-none_seen.ensures in
    let from_one = begins_trans (objects_of one) (objects_of two) (objects_of now) steps.kept seen.kept in
    let kept = begins_trans (objects_of env.types) (objects_of one) (objects_of now) made.kept from_one in
    let of_owner = rw (basis.known, c.owner_at-owner.ensures, c.job_of-job.ensures, was.jobs) at steps.steps in
    let types = rw (basis.known, c.job_of-job.ensures, was.jobs) at
    (section_stays now one _ js there _ c.in_ok-made.made from_one made.types) in
    let at = owner_in file there in
    record {
      at = record {
        jobs = was.jobs;
        shows = section_changed now env.types env.scope.types c.in_ok-made.made c.in_ok-none_seen.none_seen file.kind known root (section_view env.section) there
            (before env.seen) kept types (seen.ty known at of_owner) was.shows;
        steps = seen.steps known at of_owner;
        prefixes = seen.prefixes;
        strategy = means_stays now env.types basis.strategy strategy_type kept was.strategy;
        job_types = keeps_jobs_stay now one basis.outputs js c.section_types.new.made from_one made.keeps;
        step_types = keeps_stays now two (step_at basis.outputs) c.of.new.made seen.kept steps.keeps;
      };
      file = refl;
      kept = kept;
    }
