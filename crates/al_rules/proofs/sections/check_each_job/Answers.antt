use Rattle.std.proofs.Common.{◌++◌, ◌∙◌, ap}
use Rattle.al_tree.specs.Values.{member_of}
use Rattle.al_rules.specs.Rules.{job_faults, steps_faults}
use Rattle.al_rules_settings.proofs.Joining.{item_added, joined_left}
use Rattle.al_rules.proofs.sections.check_each_job.Goals as goal

pub loop-job-preserved : goal.loop-job-preserved
loop-job-preserved c =
    item_added job_faults member_of c.args.jobs.now c.loop-job.job-index c.job-item.result c.loop-job.faults _ _ c.loop-job-test.true c.job-item.is
    (joined_left _ _ _ _ _ _ _ c.in_ok-check_settings.ensures c.in_ok-check_containers.ensures
    (c.in_ok-check_steps.ensures ∙ ap (λ ns. c.check_containers.new.faults ++ steps_faults ns) c.items_under.ensures))
    c.loop-job.invariant
