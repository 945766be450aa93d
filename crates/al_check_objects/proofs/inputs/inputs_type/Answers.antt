use Rattle.std.proofs.Common.{◌∙◌}
use Rattle.std.specs.Prelude.{codes}
use Rattle.al_base.proofs.Growing.{begins_trans}
use Rattle.al_types.specs.Types.{fuse_type}
use Rattle.al_yaml_tree.specs.View.{view}
use Rattle.al_expr_types.proofs.Returned.{both_ok}
use Rattle.al_check_objects.proofs.InputLemmas.{below_itself, both_events}
use Rattle.al_check_objects.proofs.Numbers.{always, means_stays}
use Rattle.al_check_objects.proofs.inputs.inputs_type.Goals as goal

pub join-requires-clause-a : goal.join-requires-clause-a
join-requires-clause-a c =
    (means_stays c.event_inputs-in-Workflow.new.types c.event_inputs.new.types c.in_ok-call-in-Workflow.call _ c.in_ok-dispatch-in-Workflow.ensures.kept c.in_ok-call-in-Workflow.ensures.ty).known

pub join-requires-clause-b : goal.join-requires-clause-b
join-requires-clause-b c = c.in_ok-dispatch-in-Workflow.ensures.ty.known

pub returns-in_ok-dispatch-in-Workflow : goal.returns-in_ok-dispatch-in-Workflow
returns-in_ok-dispatch-in-Workflow c =
    let now = c.event_inputs-in-Workflow.new.types in
    let call = means_stays now c.event_inputs.new.types c.in_ok-call-in-Workflow.call _ c.in_ok-dispatch-in-Workflow.ensures.kept c.in_ok-call-in-Workflow.ensures.ty in
    let both = both_events (codes "workflow_call") (codes "workflow_dispatch") (view c.args.root.now) in
    record {
      ty = rw c.in-Workflow.is (both_ok c.join.result c.join.ensures.ty c.join.ensures.known
          (λ ty is known. record { known = known; is = is ∙ (λ d. fuse_type (call.is d) (c.in_ok-dispatch-in-Workflow.ensures.ty.is d)) ∙ both }));
      kept = always c.join.result (begins_trans _ _ _ c.in_ok-call-in-Workflow.ensures.kept
          (begins_trans _ _ _ c.in_ok-dispatch-in-Workflow.ensures.kept c.join.ensures.kept));
    }

pub returns-in_ok-declared-in-Action : goal.returns-in_ok-declared-in-Action
returns-in_ok-declared-in-Action c =
    rw c.in-Action.is (rw (c.as_slice.ensures.value, c.in_ok-declared-in-Action.ensures, c.value.ensures, below_itself) at c.declared_strings.ensures)
