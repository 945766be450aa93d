use Rattle.std.proofs.Common.{◌∙◌, subst, sym}
use Rattle.al_check_contexts.specs.Lookups.{shown_at}
use Rattle.al_check_contexts.specs.Made.{jobs_from}
use Rattle.al_check_contexts.specs.Caches.{Keeps}
use Rattle.al_check_contexts.proofs.JobLemmas.{shown_there}
use Rattle.al_check_contexts.proofs.Kept.{keeps_stays}
use Rattle.al_check_objects.proofs.Numbers.{means_as, means_stays}
use Rattle.al_check_contexts.proofs.jobs.JobTypes.get.Goals as goal

pub returns : goal.returns
returns c =
    let entry = c.args.types.now in
    let now = c.type_of.new.types in
    let at = shown_at c.args.basis.now.outputs (jobs_from c.args.basis.now) in
    let one = c.in_ok-ty.ensures in
    let made = one.made in
    let means = means_as now c.in_ok-ty.ty _ _ (shown_there c.args.basis.now.outputs (jobs_from c.args.basis.now) c.args.i _ c.job_at.ensures) made.ty in
    record {
      made = record { ty = means; kept = made.kept };
      keeps = record {
        calls = one.keeps;
        shown = c.set.ensures now at (subst (Keeps now at) (sym c.type_of.ensures.shown) (keeps_stays now entry at c.args.self.now.shown made.kept c.requires.keeps.shown)) means;
        bare = one.bare;
        all = λ t e. means_stays now entry t _ made.kept (c.requires.keeps.all t (sym c.type_of.ensures.all ∙ e));
      };
    }
