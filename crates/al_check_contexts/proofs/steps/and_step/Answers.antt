use Rattle.std.proofs.lemmas.Result.{IfOk-weaker}
use Rattle.al_check_objects.proofs.Numbers.{lists_stay}
use Rattle.al_check_contexts.proofs.steps.and_step.Goals as goal

pub returns-clause-fields : goal.returns-clause-fields
returns-clause-fields c =
    let now = c.step_type.new.types in
    let means = rw c.position-position.ensures at c.in_ok-ty.ensures.made.ty in
    IfOk-weaker c.and.result _ _
    (λ more lists ts h.
    let stay = lists_stay now c.args.types.now c.args.fields ts c.in_ok-ty.ensures.made.kept h in
    rw (← c.text_under.ensures, c.in-Some.is) (rw c.text.ensures at (lists now ts _ stay means)))
    c.and.ensures
