-- The faults of calls of files in the folder, given the answers.
use Rattle.std.specs.Prelude.{ℕ, List, [], ◌∷◌, ◌++◌, Bool, true, false, ◌||◌, codes}
use Rattle.std.specs.Prelude.{map, Option, Some, None, find, if◌then◌else◌}
use Rattle.std.specs.List.{flat_map}
use Rattle.std.specs.Option.{option_map_or}
use Rattle.std.specs.Str.{bytes_eq}
use Rattle.std.specs.Str.Lossy.{utf8_lossy}
use Rattle.al_base.specs.declared.codes.CallCode.{CallCode}
use Rattle.al_base.specs.declared.codes.CallCode.TheVariants as code
use Rattle.al_base.specs.declared.codes.Caller.{Caller}
use Rattle.al_base.specs.declared.codes.Caller.TheVariants as caller
use Rattle.al_base.specs.declared.codes.Code.TheVariants as kind_of_code
use Rattle.al_base.specs.declared.faults.Fault.{Fault}
use Rattle.al_base.specs.declared.faults.Span.{Span}
use Rattle.al_scalar.specs.Scalar.{Scalar, text_of}
use Rattle.al_types.specs.Types.{Type', Any, assignable_type}
use Rattle.al_yaml_tree.specs.Access.{scalar_in}
use Rattle.al_yaml_tree.specs.Node.{Node, span_of}
use Rattle.al_tree.specs.Keys.{key_of, keys_in}
use Rattle.al_tree.specs.Values.{entries_at, text_at_key}
use Rattle.al_tree.specs.Declarations.{named_among}
use Rattle.al_check_objects.specs.Inputs.{input_type}
use Rattle.al_tree.specs.declared.inputs.InputType.{InputType}
use Rattle.al_tree.specs.declared.inputs.InputType.TheVariants as input
use Rattle.al_check_interfaces.specs.Parameters.{has_parameter, is_parameter, mandatory_of}
use Rattle.al_check_interfaces.specs.Kinds.{parameters_of}
use Rattle.al_check_interfaces.specs.declared.interfaces.Interface.{Interface}
use Rattle.al_check_interfaces.specs.declared.interfaces.Interface.TheVariants.{Readable}
use Rattle.al_check_interfaces.specs.declared.interfaces.Interface.TheVariants.{Unreadable}
use Rattle.al_check_interfaces.specs.declared.interfaces.Parameter.{Parameter}
use Rattle.al_check_interfaces.specs.declared.interfaces.ParameterKind.{ParameterKind}
use Rattle.al_check_interfaces.specs.declared.interfaces.ParameterKind.TheVariants as kind
use Rattle.al_check_interfaces.specs.declared.interfaces.Role.{Role}
use Rattle.al_check_interfaces.specs.declared.interfaces.Role.TheVariants as role
use Rattle.al_check_interfaces.specs.declared.interfaces.Signature.{Signature}
use Rattle.al_check_interfaces.specs.Uses.{Call, site_caller, that_uses}

abbrev pub call_fault : CallCode → Call → Span → List (List ℕ) → Fault
call_fault f c at texts =
    record {
      span = at;
      code = kind_of_code.Call f (site_caller c.site);
      args = map utf8_lossy texts;
    }

-- which files a step can call, and which a job
abbrev pub is_callable : Caller → Role → Bool
is_callable caller.Step role.Composite = true
is_callable caller.Step role.Action = true
is_callable caller.Job role.Callable = true
is_callable by r = false

-- a step can call an action that doesn't exist, but a job can't call such a workflow
abbrev pub absent_faults : Call → Caller → List Fault
absent_faults c caller.Step = []
absent_faults c caller.Job = that_uses code.NoWorkflow c ∷ []

-- the faults of `uses`: C1 if no file answers, C8 if the one that does can't be called
abbrev pub uses_faults : Call → Option Interface → List Fault
uses_faults c None = absent_faults c (site_caller c.site)
uses_faults c (Some Unreadable) = []
uses_faults c (Some (Readable s)) =
    if is_callable (site_caller c.site) s.role then [] else that_uses code.NotCallable c ∷ []

-- the signature of a file for a step or a job that can call it; None if the call has C1 or C8, or
-- the file can't be read
abbrev pub callable_signature : Caller → Option Interface → Option Signature
callable_signature by (Some (Readable s)) = if is_callable by s.role then Some s else None
callable_signature by answer = None

-- how faults name the called file: by its `name`, otherwise by the text of `uses`
abbrev pub called_name : Call → Signature → List ℕ
called_name c s = option_map_or (λ n. n) s.name c.text

-- the parameters of each kind that a call passes, and their faults: a name that isn't declared is
-- C2 or C5, one that is missing C3 or C6
abbrev pub given_by : ParameterKind → Node → List (Scalar × Node)
given_by kind.Input n = entries_at (codes "with") n
given_by kind.Secret n = entries_at (codes "secrets") n

abbrev pub undefined_code : ParameterKind → CallCode
undefined_code kind.Input = code.UndefinedInput
undefined_code kind.Secret = code.UndefinedSecret

abbrev pub missing_code : ParameterKind → CallCode
missing_code kind.Input = code.MissingInput
missing_code kind.Secret = code.MissingSecret

-- what a step passes to a container needs no input of the called file
abbrev pub is_free_for : ParameterKind → Caller → List ℕ → Bool
is_free_for kind.Input caller.Step name = named_among (codes "args" ∷ codes "entrypoint" ∷ []) name
is_free_for kind.Input caller.Job name = false
is_free_for kind.Secret by name = false

abbrev pub is_taken : ParameterKind → Call → Signature → List ℕ → Bool
is_taken k c s name =
    has_parameter (parameters_of k s) name || is_free_for k (site_caller c.site) name

abbrev pub undefined_name : ParameterKind → Call → Signature → Scalar × Node → List Fault
undefined_name k c s e =
    if is_taken k c s (key_of e) then [] else
    call_fault (undefined_code k) c e.0.span (key_of e ∷ called_name c s ∷ []) ∷ []

abbrev pub missing_name : ParameterKind → Call → Signature → Parameter → List Fault
missing_name k c s p =
    if named_among (keys_in (given_by k c.site.node)) p.name then []
    else call_fault (missing_code k) c c.at (p.name ∷ called_name c s ∷ []) ∷ []

abbrev pub names_against : ParameterKind → Call → Signature → List Fault
names_against k c s =
    flat_map (undefined_name k c s) (given_by k c.site.node)
    ++ flat_map (missing_name k c s) (mandatory_of (parameters_of k s))

abbrev pub is_inherit : Node → Bool
is_inherit job =
    option_map_or (λ s. bytes_eq (text_of s) (codes "inherit"))
    (text_at_key (codes "secrets") job) false

abbrev pub type_name : InputType → List ℕ
type_name input.Boolean = codes "boolean"
type_name input.Number = codes "number"
type_name input.String = codes "string"

abbrev pub type_faults : Call → Scalar × Node → Type' → Parameter → List Fault
type_faults c e t i =
    if assignable_type t (input_type i.takes) then []
    else call_fault code.WrongInput c (span_of e.1) (i.name ∷ type_name i.takes ∷ []) ∷ []

-- a value that a call passes, with its type, which is any if the value isn't a scalar
abbrev pub Given : Type 0
Given = (Scalar × Node) × Type'

abbrev pub given_type : (Scalar → Scalar → Type') → Scalar × Node → Type'
given_type type_of e = option_map_or (type_of e.0) (scalar_in e.1) Any

abbrev pub values_of : (Scalar → Scalar → Type') → List (Scalar × Node) → List Given
values_of type_of = map (λ e. (e, given_type type_of e))

-- C4: a value of the wrong type
abbrev pub wrong_input : Call → List Parameter → Given → List Fault
wrong_input c inputs v =
    option_map_or (type_faults c v.0 v.1) (find (is_parameter (key_of v.0)) inputs) []

-- the faults of what a call passes to a file that it can call: C4 of the values of a job, C2 and C3
-- of inputs, C5 and C6 of the secrets of a job that doesn't pass all of its own on
abbrev pub passed_faults : Caller → Call → List Given → Signature → List Fault
passed_faults caller.Step c values s = names_against kind.Input c s
passed_faults caller.Job c values s =
    flat_map (wrong_input c s.inputs) values ++ names_against kind.Input c s
    ++ (if is_inherit c.site.node then [] else names_against kind.Secret c s)

-- The faults of a call of a file in the folder, given the values under `with` with their types, and
-- its answer.
abbrev pub call_faults : Call → List Given → Option Interface → List Fault
call_faults c values answer =
    let by = site_caller c.site in
    uses_faults c answer
    ++ option_map_or (passed_faults by c values) (callable_signature by answer) []
