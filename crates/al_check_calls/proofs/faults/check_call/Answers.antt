use Rattle.std.proofs.Common.{◌≡◌, ◌++◌, ap, append_assoc, not, Option, Some, sym, ◌∙◌}
use Rattle.std.proofs.lemmas.List.Folds.{flat_map-map}
use Rattle.std.proofs.lemmas.Result.{on_ok_weaker}
use Rattle.std.specs.List.{flat_map}
use Rattle.std.specs.Option.{option_copied}
use Rattle.std.specs.Prelude.{if◌then◌else◌}
use Rattle.al_base.specs.declared.codes.Caller.{Caller}
use Rattle.al_base.specs.declared.codes.Caller.TheVariants.{Job, Step}
use Rattle.al_check_contexts.specs.Environments.{file_of}
use Rattle.al_check_interfaces.specs.declared.interfaces.ParameterKind.TheVariants.{Input}
use Rattle.al_check_interfaces.specs.declared.interfaces.Signature.{Signature}
use Rattle.al_check_interfaces.specs.Uses.{Call, site_caller}
use Rattle.al_check_calls.specs.Answers.{Typing, values_in}
use Rattle.al_check_calls.specs.CallFaults.{callable_signature, given_by, given_type, uses_faults, wrong_input}
use Rattle.al_check_calls.specs.AnswerViews.{answered_of, typing_in}
use Rattle.al_check_calls.specs.Private.Comparing.{value_faults, values_against, wrong_value}
use Rattle.al_check_calls.proofs.faults.check_call.Goals as goal

-- C4 of the values that a job gives, value by value
of_job : (typing : Typing) (c : Call) (s : Signature) (by : Caller) (o : Option Signature) → by ≡ Job → o ≡ Some s →
    flat_map (wrong_value typing c s.inputs) (given_by Input c.site.node) ≡ values_against by c (values_in typing c) o
of_job typing c s by o is callable =
    sym (flat_map-map (wrong_input c s.inputs) (λ e. (e, given_type (typing c.site) e)) (given_by Input c.site.node))
    ∙ λ i. values_against (sym is i) c (values_in typing c) (sym callable i)

pub returns-in-Some-clause-faults : goal.returns-in-Some-clause-faults
returns-in-Some-clause-faults c =
    let a = answered_of c.args.answered in
    let types = typing_in (file_of c.args.env.now) in
    let by : site_caller a.call.site ≡ Job = ap (λ b. if b then Step else Job) (c.is_none.ensures ∙ ap not c.if-is_none.true) in
    let callable = sym c.called_signature.ensures ∙ ap option_copied c.in-Some.is in
    let values = of_job types a.call c.in-Some.signature.now (site_caller a.call.site) (callable_signature (site_caller a.call.site) a.answer) by callable in
    on_ok_weaker c.check_values.result
    (λ made. made ∙ (λ d. c.in_ok-check_uses.ensures d ++ values d)
    ∙ append_assoc c.args.faults.now (uses_faults a.call a.answer) (value_faults a.call (values_in types a.call) a.answer)) c.check_values.ensures.faults
