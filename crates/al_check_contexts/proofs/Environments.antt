-- Environments stay at their positions when expressions add objects to their tables, and move on from where they moved to.
use Rattle.std.proofs.Common.{◌∙◌}
use Rattle.al_base.proofs.Growing.{begins_trans}
use Rattle.al_base.specs.Growth.{BeginsWith}
use Rattle.al_check_places.specs.Positions.{section_view}
use Rattle.al_check_places.specs.declared.positions.Seen.TheVariants.{Before as before}
use Rattle.al_check_objects.specs.Fixed.{strategy_type}
use Rattle.al_check_contexts.specs.Answered.{known_of}
use Rattle.al_check_contexts.specs.Environments.{HasMoved, IsAtPosition, file_of, owner_in, types_at}
use Rattle.al_check_contexts.specs.Lookups.{step_at}
use Rattle.al_check_contexts.specs.Made.{jobs_from}
use Rattle.al_check_contexts.specs.Table.{position}
use Rattle.al_check_contexts.specs.declared.env.Env.{Env}
use Rattle.al_expr_types.specs.Tables.{objects_of}
use Rattle.al_expr_types.specs.declared.types.Types.{Types}
use Rattle.al_check_contexts.proofs.JobLemmas.{keeps_jobs_stay}
use Rattle.al_check_contexts.proofs.Kept.{keeps_stays}
use Rattle.al_check_objects.proofs.Numbers.{means_stays}
use Rattle.al_check_contexts.proofs.StepLemmas.{prefixes_stay, steps_stay}
use Rattle.al_check_contexts.proofs.TableLemmas.{shows_stays}

position_stays : (old : Env) (types : Types) → IsAtPosition old → BeginsWith (objects_of types) (objects_of old.types) →
    IsAtPosition (record old { types = types })
position_stays old types h b =
    let file = file_of old in
    let section = section_view old.section in
    record {
      jobs = h.jobs;
      shows = shows_stays types old.types old.scope.types (types_at file (position section (before old.seen))) b h.shows;
      steps = steps_stay types old.types (known_of file.known) (owner_in file section) old.steps b h.prefixes h.steps;
      prefixes = prefixes_stay types old.types old.steps b h.prefixes;
      strategy = means_stays types old.types old.basis.strategy strategy_type b h.strategy;
      job_types = keeps_jobs_stay types old.types old.basis.outputs (jobs_from old.basis) old.job_types b h.job_types;
      step_types = keeps_stays types old.types (step_at old.basis.outputs) old.step_types b h.step_types;
    }

-- where it has moved, and its table has grown since
pub moved_and_grown : (now old : Env) (types : Types) → HasMoved now old → BeginsWith (objects_of types) (objects_of now.types) →
    HasMoved (record now { types = types }) old
moved_and_grown now old types h b = record {
  at = position_stays now types h.at b;
  file = h.file;
  kept = begins_trans (objects_of old.types) (objects_of now.types) (objects_of types) h.kept b;
}

pub moved_further : (now mid old : Env) → HasMoved mid old → HasMoved now mid → HasMoved now old
moved_further now mid old a b = record {
  at = b.at;
  file = b.file ∙ a.file;
  kept = begins_trans (objects_of old.types) (objects_of mid.types) (objects_of now.types) a.kept b.kept;
}
