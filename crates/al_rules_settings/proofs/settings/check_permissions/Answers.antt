use Rattle.std.proofs.Common.{◌++◌, ◌∙◌, ap}
use Rattle.al_base.specs.declared.codes.RuleCode.TheVariants.{UnknownPermission}
use Rattle.al_tree.specs.Values.{member_of}
use Rattle.al_rules_settings.specs.Names.{permissions}
use Rattle.al_rules_settings.specs.Settings.{permission_faults}
use Rattle.al_rules_settings.specs.Words.{unless_among}
use Rattle.al_rules_settings.proofs.Joining.{item_added, joined2}
use Rattle.al_rules_settings.proofs.settings.check_permissions.Goals as goal

pub loop-scope-preserved : goal.loop-scope-preserved
loop-scope-preserved c =
    item_added permission_faults member_of c.deref-scope-items.result.now c.loop-scope.scope-index c.scope-item.result c.loop-scope.faults _ _
    c.loop-scope-test.true c.scope-item.is
    (joined2 _ _ _ _ _ (c.in_ok-report_unless_among.ensures ∙ ap (λ n. c.loop-scope.faults ++ unless_among UnknownPermission permissions n) c.named_text-name.ensures)
    c.in_ok-check_value-2.ensures) c.loop-scope.invariant
