use Rattle.std.proofs.Common.{◌≡◌, refl, sym, ◌∙◌}
use Rattle.std.proofs.lemmas.Result.{on_ok_weaker}
use Rattle.al_base.specs.declared.codes.CallCode.TheVariants.{CallCycle}
use Rattle.al_base.specs.declared.codes.Code.TheVariants as code
use Rattle.al_base.specs.declared.faults.Fault.{Fault}
use Rattle.al_check_interfaces.specs.Forms.{form_by}
use Rattle.al_check_interfaces.specs.CallViews.{call_of}
use Rattle.al_check_interfaces.specs.declared.forms.Form.TheVariants.{Local, Wrong}
use Rattle.al_check_interfaces.specs.Uses.{that_uses}
use Rattle.al_check_interfaces.proofs.CallLists.{local_added}
use Rattle.al_check_interfaces.proofs.calls.add_call.Goals as goal

pub returns-in_ok-push-in-Local-clause-calls : goal.returns-in_ok-push-in-Local-clause-calls
returns-in_ok-push-in-Local-clause-calls c = λ all there.
    let call = call_of c.args.call in
    let target = c.in-Local.target in
    let form : call.form ≡ Local target = sym (λ i. form_by (c.caller_of-caller.ensures i) (c.text-uses.ensures i)) ∙ sym c.in_ok-target.ensures ∙ c.in-Local.is in
    let fault : Fault = record { span = c.span-span.result; code = code.Call CallCycle c.caller_of-caller.result; args = c.in_ok-one_lossy-in-Local.field-0 } in
    let said : fault ≡ that_uses CallCycle call = rw (c.span-span.ensures, c.in_ok-one_lossy-in-Local.ensures, c.caller_of-caller.ensures, c.text-uses.ensures) refl in
    local_added call target c.args.number fault all c.args.kept.now.items c.push.new.self.items form there said c.in_ok-push-in-Local.ensures.items

pub returns-in-Wrong-clause-faults : goal.returns-in-Wrong-clause-faults
returns-in-Wrong-clause-faults c =
    let form : (call_of c.args.call).form ≡ Wrong = sym (λ i. form_by (c.caller_of-caller.ensures i) (c.text-uses.ensures i)) ∙ sym c.in_ok-target.ensures ∙ c.in-Wrong.is in
    on_ok_weaker c.report_text.result (λ made. rw (form, ← c.span-span.ensures, ← c.caller_of-caller.ensures, ← c.text-uses.ensures) made) c.report_text.ensures
