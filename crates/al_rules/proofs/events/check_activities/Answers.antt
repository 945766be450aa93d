use Rattle.std.proofs.Common.{◌++◌, ◌∙◌, ap, map}
use Rattle.al_base.specs.declared.codes.RuleCode.TheVariants.{UnknownActivity}
use Rattle.al_rules_settings.specs.Words.{of_scalar, unless_among}
use Rattle.al_rules_settings.proofs.Joining.{item_added}
use Rattle.al_rules.proofs.events.check_activities.Goals as goal

pub loop-scalar-preserved : goal.loop-scalar-preserved
loop-scalar-preserved c =
    let types = map (λ n. n.now) c.in-Some.types.now in
    item_added (λ s. unless_among UnknownActivity types (of_scalar s)) (λ s. s.now) c.deref-scalar-items.result.now c.loop-scalar.scalar-index
    c.scalar-item.result c.loop-scalar.faults _ _ c.loop-scalar-test.true c.scalar-item.is
    (c.in_ok-report_unless_among.ensures ∙ ap (λ n. c.loop-scalar.faults ++ unless_among UnknownActivity types n) c.named_text-name.ensures)
    c.loop-scalar.invariant
