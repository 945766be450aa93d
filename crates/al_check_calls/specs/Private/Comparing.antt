-- The faults of a call by itself, and the faults of names for all calls of a file together.
use Rattle.std.specs.Prelude.{◌≡◌, ◌⊎◌, List, [], ◌∷◌, ◌++◌, Bool, true, false, ◌&&◌, not, Contains}
use Rattle.std.specs.Prelude.{map, Option, None, option_map, if◌then◌else◌}
use Rattle.std.specs.List.{cons_option, flat_map}
use Rattle.std.specs.Option.{option_map_or}
use Rattle.std.specs.Str.{bytes_eq}
use Rattle.al_base.specs.contracts.codes.CallerPartialEq.TheImpl as caller
use Rattle.al_base.specs.contracts.faults.SpanPartialEq.TheImpl as span
use Rattle.al_base.specs.declared.codes.Caller.{Caller}
use Rattle.al_base.specs.declared.codes.Caller.TheVariants.{Job, Step}
use Rattle.al_base.specs.declared.faults.Fault.{Fault}
use Rattle.al_scalar.specs.Scalar.{Scalar}
use Rattle.al_yaml_tree.specs.Node.{Node}
use Rattle.al_tree.specs.Keys.{key_of, keys_in}
use Rattle.al_tree.specs.Declarations.{named_among}
use Rattle.al_check_interfaces.specs.Kinds.{parameters_of}
use Rattle.al_check_interfaces.specs.Parameters.{mandatory_of}
use Rattle.al_check_interfaces.specs.contracts.interfaces.ParameterKindPartialEq.TheImpl as kinds
use Rattle.al_check_interfaces.specs.declared.interfaces.Interface.{Interface}
use Rattle.al_check_interfaces.specs.declared.interfaces.Parameter.{Parameter}
use Rattle.al_check_interfaces.specs.declared.interfaces.ParameterKind.{ParameterKind}
use Rattle.al_check_interfaces.specs.declared.interfaces.ParameterKind.TheVariants.{Input, Secret}
use Rattle.al_check_interfaces.specs.declared.interfaces.Signature.{Signature}
use Rattle.al_check_interfaces.specs.Uses.{Call, site_caller}
use Rattle.al_check_calls.specs.Answers.{Answered, Typing, values_in}
use Rattle.al_check_calls.specs.CallFaults.{Given, call_fault, callable_signature, called_name}
use Rattle.al_check_calls.specs.CallFaults.{given_by, given_type, is_inherit, missing_code}
use Rattle.al_check_calls.specs.CallFaults.{missing_name, names_against, undefined_name}
use Rattle.al_check_calls.specs.CallFaults.{uses_faults, wrong_input}

-- ---- the faults of a call, by what they are about

-- whether names of a kind are compared: not the secrets of a step, nor those that a job passes on
abbrev pub is_compared : ParameterKind → Caller → Node → Bool
is_compared Input by n = true
is_compared Secret Step n = false
is_compared Secret Job n = not (is_inherit n)

abbrev pub signature_for : ParameterKind → Call → Option Interface → Option Signature
signature_for k c answer =
    if is_compared k (site_caller c.site) c.site.node
    then callable_signature (site_caller c.site) answer else None

abbrev pub names_of_kind : ParameterKind → Call → Option Interface → List Fault
names_of_kind k c answer = option_map_or (names_against k c) (signature_for k c answer) []

-- the faults of the types of values; a step's aren't compared
abbrev pub values_against : Caller → Call → List Given → Option Signature → List Fault
values_against Step c values o = []
values_against Job c values o = option_map_or (λ s. flat_map (wrong_input c s.inputs) values) o []

abbrev pub value_faults : Call → List Given → Option Interface → List Fault
value_faults c values answer =
    values_against (site_caller c.site) c values (callable_signature (site_caller c.site) answer)

-- all faults except those of names
abbrev pub faults_but_names : Typing → Answered → List Fault
faults_but_names typing a =
    uses_faults a.call a.answer ++ value_faults a.call (values_in typing a.call) a.answer

-- C4 of a value that a call passes
abbrev pub wrong_value : Typing → Call → List Parameter → Scalar × Node → List Fault
wrong_value typing c inputs e = wrong_input c inputs (e, given_type (typing c.site) e)

-- the faults of names: C2 and C3 of inputs, C5 and C6 of secrets
abbrev pub faults_of_names : Answered → List Fault
faults_of_names a = names_of_kind Input a.call a.answer ++ names_of_kind Secret a.call a.answer

-- ---- calls whose names are compared

-- a call whose names of a kind are compared with a signature
pub record Comparison : Type 0 where
  pub kind : ParameterKind
  pub call : Call
  pub signature : Signature

abbrev pub compared_with : ParameterKind → Call → Signature → Comparison
compared_with k c s = record { kind = k; call = c; signature = s }

abbrev pub comparison_of : ParameterKind → Answered → Option Comparison
comparison_of k a = option_map (compared_with k a.call) (signature_for k a.call a.answer)

abbrev pub comparisons : Answered → List Comparison
comparisons a = cons_option (comparison_of Input a) (cons_option (comparison_of Secret a) [])

abbrev pub name_faults_of : Comparison → List Fault
name_faults_of q = names_against q.kind q.call q.signature

abbrev pub undefined_of : Comparison → List Fault
undefined_of q =
    flat_map (undefined_name q.kind q.call q.signature) (given_by q.kind q.call.site.node)

abbrev pub missing_of : Comparison → List Fault
missing_of q =
    flat_map (missing_name q.kind q.call q.signature)
    (mandatory_of (parameters_of q.kind q.signature))

-- calls with the same caller and text have the same signature
abbrev pub HaveOneSignature : Comparison → Comparison → Type 0
HaveOneSignature q r =
    site_caller q.call.site ≡ site_caller r.call.site → q.call.text ≡ r.call.text → q.signature
    ≡ r.signature

abbrev pub TellSignatures : List Comparison → Type 0
TellSignatures qs = (q r : Comparison) → Contains qs q → Contains qs r → HaveOneSignature q r

-- calls with the same kind of names, caller and text
abbrev pub call_alike : Comparison → Comparison → Bool
call_alike q r =
    kinds.ghosts.eq q.kind r.kind
    && (caller.ghosts.eq (site_caller q.call.site) (site_caller r.call.site)
    && bytes_eq q.call.text r.call.text)

pub record CallAlike (q r : Comparison) : Type 0 where
  pub kind : q.kind ≡ r.kind
  pub by : site_caller q.call.site ≡ site_caller r.call.site
  pub text : q.call.text ≡ r.call.text

-- ---- names that aren't declared

-- a name that a call gives
pub record GivenName : Type 0 where
  pub by : Comparison
  pub entry : Scalar × Node

abbrev pub name_by : Comparison → Scalar × Node → GivenName
name_by q e = record { by = q; entry = e }

abbrev pub names_by : Comparison → List GivenName
names_by q = map (name_by q) (given_by q.kind q.call.site.node)

abbrev pub undefined_at : GivenName → List Fault
undefined_at n = undefined_name n.by.kind n.by.call n.by.signature n.entry

abbrev pub TellSignaturesBy : List GivenName → Type 0
TellSignaturesBy ns = (n m : GivenName) → Contains ns n → Contains ns m → HaveOneSignature n.by m.by

-- the same name at the same position, given by such calls
abbrev pub is_same_name_given : GivenName → GivenName → Bool
is_same_name_given n m =
    call_alike n.by m.by && (bytes_eq (key_of n.entry) (key_of m.entry)
    && span.ghosts.eq n.entry.0.span m.entry.0.span)

abbrev pub AreThere : List Fault → List Fault → Type 0
AreThere faults all = (f : Fault) → Contains faults f → Contains all f

-- ---- names that are missing

-- calls with the same kind of names, caller and text at the same `uses`
abbrev pub is_by_same_uses : Comparison → Comparison → Bool
is_by_same_uses q r = call_alike q r && span.ghosts.eq q.call.at r.call.at

abbrev pub gives : Comparison → Parameter → Bool
gives q p = named_among (keys_in (given_by q.kind q.call.site.node)) p.name

abbrev pub missing_fault : Comparison → Parameter → Fault
missing_fault q p =
    call_fault (missing_code q.kind) q.call q.call.at (p.name ∷ called_name q.call q.signature ∷ [])

abbrev pub fault_unless_given : Comparison → Parameter → List Fault
fault_unless_given q = missing_name q.kind q.call q.signature

abbrev pub parameter_if_given : Comparison → Parameter → List Parameter
parameter_if_given q p = if gives q p then p ∷ [] else []

abbrev pub mandatory_for : Comparison → List Parameter
mandatory_for q = mandatory_of (parameters_of q.kind q.signature)

-- Each mandatory parameter is left to look up, or is reported as missing at this `uses`.
pub record IsSaid (q : Comparison) (left : List Parameter) (out : List Fault) : Type 0 where
  pub among : (p : Parameter) → Contains left p → Contains (mandatory_for q) p
  pub said : (p : Parameter) → Contains (mandatory_for q) p → Contains left p
      ⊎ Contains out (missing_fault q p)
