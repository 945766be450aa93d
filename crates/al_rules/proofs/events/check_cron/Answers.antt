use Rattle.std.proofs.Common.{◌≡◌, [], Some, ap, not, option_map, sym, ◌∙◌}
use Rattle.std.specs.Option.{option_map_or}
use Rattle.al_base.specs.declared.codes.RuleCode.TheVariants.{ScheduleTooOften}
use Rattle.al_rules_formats.specs.Schedules.{is_too_often, schedule_of}
use Rattle.al_rules_settings.specs.Views.{named_of}
use Rattle.al_rules_settings.specs.Words.{of_scalar, unless}
use Rattle.al_yaml_tree.specs.View.{view}
use Rattle.al_rules.specs.Events.{cron_faults, schedule_faults}
use Rattle.al_rules.proofs.events.check_cron.Goals as goal

pub returns : goal.returns
returns c =
    let scalar = of_scalar c.in-Some.cron.now in
    let items = c.in-Some-2.minutes.items in
    let parsed : schedule_of scalar.text ≡ Some items =
    ap (λ n. schedule_of n.text) (sym c.named_text-name.ensures) ∙ sym c.in_ok-minutes.ensures ∙ ap (option_map (λ v. v.items)) c.in-Some-2.is in
    let found : unless (not c.in_ok-often.often) ScheduleTooOften (named_of c.named_text-name.result) ≡ cron_faults (view c.args.entry.now) =
    ap (λ b. unless (not b) ScheduleTooOften (named_of c.named_text-name.result)) (c.in_ok-often.ensures ∙ ap is_too_often c.as_slice.ensures.value)
    ∙ ap (schedule_faults (Some items)) c.named_text-name.ensures
    ∙ ap (λ o. schedule_faults o scalar) (sym parsed)
    ∙ ap (λ o. option_map_or (λ s. schedule_faults (schedule_of (of_scalar s).text) (of_scalar s)) o []) c.in-Some.ensures in
    rw found at c.report_unless.ensures
