use Rattle.std.proofs.Common.{refl}
use Rattle.al_check_places.specs.Positions.{section_view}
use Rattle.al_check_places.specs.declared.positions.Seen.TheVariants.{Before as before}
use Rattle.al_check_objects.specs.Fixed.{strategy_type}
use Rattle.al_yaml_tree.specs.View.{view}
use Rattle.al_check_contexts.specs.Answered.{known_of}
use Rattle.al_check_contexts.specs.Environments.{file_of, owner_in}
use Rattle.al_check_contexts.specs.Lookups.{step_at}
use Rattle.al_check_contexts.specs.Made.{jobs_from}
use Rattle.al_check_contexts.proofs.JobLemmas.{keeps_jobs_stay}
use Rattle.al_check_contexts.proofs.Kept.{keeps_stays}
use Rattle.al_check_objects.proofs.Numbers.{means_stays}
use Rattle.al_check_contexts.proofs.TableLemmas.{same_seen, steps_changed}
use Rattle.al_check_contexts.proofs.env.Env.see.Goals as goal

pub returns : goal.returns
returns c =
    let env = c.args.self.now in
    let was = c.requires in
    let file = file_of env in
    let known = known_of file.known in
    let root = view file.root.now in
    let section = section_view env.section in
    let owner = owner_in file section in
    let now = c.first.new.types in
    let made = c.in_ok-steps.ensures in
    let count = c.seen_count-count.result in
    let shows = steps_changed now env.types env.scope.types c.in_ok-steps.steps file.kind known root section (before env.seen) (before count) made.kept
    (made.ty known owner was.steps) was.shows in
    record {
      moved = record {
        at = record {
          jobs = was.jobs;
          shows = shows;
          steps = made.steps known owner was.steps;
          prefixes = made.prefixes;
          strategy = means_stays now env.types env.basis.strategy strategy_type made.kept was.strategy;
          job_types = keeps_jobs_stay now env.types env.basis.outputs (jobs_from env.basis) env.job_types made.kept was.job_types;
          step_types = keeps_stays now env.types (step_at env.basis.outputs) env.step_types made.kept was.step_types;
        };
        file = refl;
        kept = made.kept;
      };
      shows = same_seen now (record env.scope.types { steps = c.in_ok-steps.steps }) file.kind known root section (before count) c.args.seen
          (c.seen_count-count.ensures.seen env.types known owner was.steps) shows;
    }
