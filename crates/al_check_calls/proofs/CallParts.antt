-- The faults of a call are those of the call by itself and those of its names.
use Rattle.std.proofs.Common.{◌≡◌, ◌∙◌, ◌++◌, List, [], Bool, true, false, not, cond, Option, Some, None, ap, append-nil, append_assoc, refl, sym}
use Rattle.std.specs.Option.{option_map_or}
use Rattle.al_base.specs.declared.codes.Caller.{Caller}
use Rattle.al_base.specs.declared.codes.Caller.TheVariants.{Job, Step}
use Rattle.al_base.specs.declared.faults.Fault.{Fault}
use Rattle.al_check_interfaces.specs.declared.interfaces.ParameterKind.TheVariants.{Input, Secret}
use Rattle.al_check_interfaces.specs.declared.interfaces.Signature.{Signature}
use Rattle.al_check_interfaces.specs.Uses.{Call, site_caller}
use Rattle.al_check_calls.specs.Answers.{Answered, Typing, answered_faults, values_in}
use Rattle.al_check_calls.specs.CallFaults.{Given, callable_signature, is_inherit, names_against, passed_faults, uses_faults, wrong_input}
use Rattle.al_check_calls.specs.Private.Comparing.{faults_but_names, faults_of_names, is_compared, values_against}
use Rattle.std.specs.List.{flat_map}

module _ (c : Call) (values : List Given) where
  abbrev inputs : Option Signature → List Fault
  inputs o = option_map_or (names_against Input c) o []

  abbrev secrets : Bool → Option Signature → List Fault
  secrets compared o = option_map_or (names_against Secret c) (cond compared o None) []

  job_secrets : (b : Bool) (s : Signature) → cond b [] (names_against Secret c s) ≡ secrets (not b) (Some s)
  job_secrets true s = refl
  job_secrets false s = refl

  no_secrets : (b : Bool) → secrets b None ≡ []
  no_secrets true = refl
  no_secrets false = refl

  passed_parts : (by : Caller) (o : Option Signature) → option_map_or (passed_faults by c values) o []
      ≡ values_against by c values o ++ (inputs o ++ secrets (is_compared Secret by c.site.node) o)
  passed_parts Step None = refl
  passed_parts Step (Some s) = sym (append-nil (names_against Input c s))
  passed_parts Job None = sym (no_secrets (not (is_inherit c.site.node)))
  passed_parts Job (Some s) =
      let given = flat_map (wrong_input c s.inputs) values in
      append_assoc given (names_against Input c s) (cond (is_inherit c.site.node) [] (names_against Secret c s))
      ∙ ap (λ l. given ++ (names_against Input c s ++ l)) (job_secrets (is_inherit c.site.node) s)

pub call_parts : (typing : Typing) (a : Answered) → answered_faults typing a ≡ faults_but_names typing a ++ faults_of_names a
call_parts typing a =
    let values = values_in typing a.call in
    let by = site_caller a.call.site in
    let callable = callable_signature by a.answer in
    let uses = uses_faults a.call a.answer in
    ap (λ l. uses ++ l) (passed_parts a.call values by callable) ∙ sym (append_assoc uses (values_against by a.call values callable) (faults_of_names a))
