use Rattle.std.proofs.Common.{ap, map, sym, ◌∙◌}
use Rattle.std.proofs.lemmas.Result.{on_ok_weaker}
use Rattle.al_check_interfaces.specs.Parameters.{mandatory_of}
use Rattle.al_check_calls.specs.Private.ComparisonViews.{compared_of}
use Rattle.al_check_calls.proofs.MissingNames.{alike_said, first_said, next_found, next_said}
use Rattle.al_expr_types.proofs.Returned.{both_ok}
use Rattle.al_check_calls.proofs.missing.check_next.Goals as goal

pub returns-in-Some : goal.returns-in-Some
returns-in-Some c =
    let call = compared_of c.args.call in
    let before = alike_said (compared_of c.in-Some.before) call _ _ (sym c.is_by_same_uses.ensures ∙ c.if-is_by_same_uses.true) (rw c.in-Some.is at c.requires.alike)
    (rw c.in-Some.is at c.requires.said) in
    let made = c.check_parameters.ensures in
    record {
      faults = on_ok_weaker c.check_parameters.result (next_found call _ _ _ before) made.faults;
      said = both_ok c.check_parameters.result made.faults made.left (λ v f l. next_said call _ _ _ _ before f l);
    }

pub returns-in_ok-all-in_default : goal.returns-in_ok-all-in_default
returns-in_ok-all-in_default c =
    let call = compared_of c.args.call in
    let all = ap (map (λ q. q.now)) c.as_slice.ensures.value ∙ c.in_ok-all-in_default.ensures ∙ ap mandatory_of c.parameters.ensures in
    let before = first_said call _ c.args.faults.now all in
    let made = c.check_parameters-in_default.ensures in
    record {
      faults = on_ok_weaker c.check_parameters-in_default.result (next_found call _ _ _ before) made.faults;
      said = both_ok c.check_parameters-in_default.result made.faults made.left (λ v f l. next_said call _ _ _ _ before f l);
    }
