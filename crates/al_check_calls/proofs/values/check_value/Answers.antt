use Rattle.std.proofs.Common.{◌≡◌, ◌++◌, ◌∙◌, ℕ, List, [], ◌∷◌, Bor, Bool, true, false, Option, Some, None, ap, append-nil, find, refl, sym}
use Rattle.std.proofs.lemmas.Result.{on_ok_weaker}
use Rattle.std.specs.Option.{option_copied, option_map_or}
use Rattle.std.specs.Prelude.{if◌then◌else◌, unwrap_or}
use Rattle.al_base.specs.declared.codes.CallCode.TheVariants.{WrongInput}
use Rattle.al_types.specs.Types.{Type', assignable_type}
use Rattle.al_scalar.specs.Scalar.{Scalar}
use Rattle.al_yaml_tree.specs.Node.{Node, span_of}
use Rattle.al_yaml_tree.specs.View.{view}
use Rattle.al_tree.specs.Keys.{key_of}
use Rattle.al_tree.specs.Values.{member_of}
use Rattle.al_expr_types.specs.Tables.{objects_of}
use Rattle.al_expr_types.specs.Types.{type_in}
use Rattle.al_check_objects.specs.Inputs.{input_type}
use Rattle.al_check_contexts.specs.Answered.{known_of}
use Rattle.al_check_contexts.specs.Environments.{file_of}
use Rattle.al_check_interfaces.specs.CallViews.{call_of}
use Rattle.al_check_interfaces.specs.Parameters.{is_parameter}
use Rattle.al_check_interfaces.specs.Uses.{Call}
use Rattle.al_check_interfaces.specs.declared.interfaces.Parameter.{Parameter}
use Rattle.al_check_calls.specs.CallFaults.{call_fault, given_type, type_faults, type_name, wrong_input}
use Rattle.al_check_calls.specs.Types.{value_type_in_job}
use Rattle.al_check_calls.proofs.values.check_value.Goals as goal

-- the text of a job's key; empty if there is none
text_or_empty : (job : Option (Bor (List ℕ))) (empty : Bor (List ℕ)) → empty.now ≡ [] → (unwrap_or job empty).now ≡ unwrap_or (option_copied job) []
text_or_empty None empty e = e
text_or_empty (Some text) empty e = refl

-- C4 of a value whose input is found
of_input : (c : Call) (e : Scalar × Node) (t u : Type') (inputs : List Parameter) (i : Parameter) (right : Bool) → find (is_parameter (key_of e)) inputs ≡ Some i →
    u ≡ t → right ≡ assignable_type u (input_type i.takes) →
    (if right then [] else call_fault WrongInput c (span_of e.1) (i.name ∷ type_name i.takes ∷ []) ∷ []) ≡ wrong_input c inputs (e, t)
of_input c e t u inputs i right found same is =
    ap (λ b. if b then [] else call_fault WrongInput c (span_of e.1) (i.name ∷ type_name i.takes ∷ []) ∷ []) is
    ∙ λ d. option_map_or (type_faults c e (same d)) (sym found d) []

pub returns-then-is_assignable_to-clause-faults : goal.returns-then-is_assignable_to-clause-faults
returns-then-is_assignable_to-clause-faults c =
    let e = member_of c.args.member in
    let file = file_of c.args.env.now in
    let ms = objects_of c.value_type.new.env.types in
    let found = ap (λ k. find (is_parameter k) c.args.inputs.now) (sym c.text.ensures) ∙ sym c.in_ok-input.ensures ∙ ap option_copied c.in-Some.is in
    let job = ap (λ j. j.now) c.unwrap_or-job.ensures ∙ text_or_empty c.args.call.site.job _ refl in
    let same = c.in_ok-ty.ensures.ty ∙ ap (λ j. given_type (value_type_in_job file.kind (known_of file.known) (view file.root.now) j) e) job in
    let right = sym c.if-is_assignable_to.true ∙ c.is_assignable_to.ensures ms
    ∙ ap (assignable_type (type_in ms c.in_ok-ty.ty)) (c.scalar.ensures.ty ms ∙ c.type_of_input.ensures) in
    sym (append-nil c.args.faults.now)
    ∙ ap (λ l. c.args.faults.now ++ l) (of_input (call_of c.args.call) e _ _ c.args.inputs.now c.in-Some.input.now true found same right)

pub returns-clause-faults : goal.returns-clause-faults
returns-clause-faults c =
    let e = member_of c.args.member in
    let file = file_of c.args.env.now in
    let ms = objects_of c.value_type.new.env.types in
    let found = ap (λ k. find (is_parameter k) c.args.inputs.now) (sym c.text.ensures) ∙ sym c.in_ok-input.ensures ∙ ap option_copied c.in-Some.is in
    let job = ap (λ j. j.now) c.unwrap_or-job.ensures ∙ text_or_empty c.args.call.site.job _ refl in
    let same = c.in_ok-ty.ensures.ty ∙ ap (λ j. given_type (value_type_in_job file.kind (known_of file.known) (view file.root.now) j) e) job in
    let right = sym c.if-is_assignable_to.false ∙ c.is_assignable_to.ensures ms
    ∙ ap (assignable_type (type_in ms c.in_ok-ty.ty)) (c.scalar.ensures.ty ms ∙ c.type_of_input.ensures) in
    let reported = rw (c.span-span.ensures, c.code_at-code.ensures, c.as_bytes.ensures, c.type_name.ensures) at c.report_two.ensures in
    on_ok_weaker c.report_two.result
    (λ made. made ∙ ap (λ l. c.args.faults.now ++ l) (of_input (call_of c.args.call) e _ _ c.args.inputs.now c.in-Some.input.now false found same right)) reported
