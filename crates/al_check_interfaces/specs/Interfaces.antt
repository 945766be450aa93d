-- The interface of a file, which its callers see (GitHub, "Workflow syntax", `on.workflow_call`;
-- "Metadata syntax", `inputs`, `outputs`, `runs`). It has no spans and no descriptions.
use Rattle.std.specs.Prelude.{ℕ, List, [], ◌∷◌, Bool, false, ◌||◌, codes, map, Option, option_map}
use Rattle.std.specs.Prelude.{if◌then◌else◌}
use Rattle.std.specs.List.{list_any}
use Rattle.std.specs.Option.{option_map_or}
use Rattle.std.specs.Str.{bytes_eq}
use Rattle.al_scalar.specs.Scalar.{Scalar, text_of}
use Rattle.al_base.specs.Names.{same_name}
use Rattle.al_yaml_tree.specs.Access.{scalar_in}
use Rattle.al_yaml_tree.specs.Node.{Node, mapping}
use Rattle.al_tree.specs.Keys.{key_of, keys_in}
use Rattle.al_tree.specs.Values.{text_at_key, texts_in, value_at}
use Rattle.al_tree.specs.declared.files.FileKind.{FileKind}
use Rattle.al_tree.specs.declared.files.FileKind.TheVariants as kind
use Rattle.al_tree.specs.Declarations.{declared_below, has_value, is_composite}
use Rattle.al_tree.specs.Inputs.{input_of}
use Rattle.al_tree.specs.declared.inputs.InputType.{InputType}
use Rattle.al_tree.specs.declared.inputs.InputType.TheVariants as input
use Rattle.al_check_interfaces.specs.declared.interfaces.Interface.{Interface}
use Rattle.al_check_interfaces.specs.declared.interfaces.Interface.TheVariants.{Readable}
use Rattle.al_check_interfaces.specs.declared.interfaces.Interface.TheVariants.{Unreadable}
use Rattle.al_check_interfaces.specs.declared.interfaces.Parameter.{Parameter}
use Rattle.al_check_interfaces.specs.declared.interfaces.Role.TheVariants as role
use Rattle.al_check_interfaces.specs.declared.interfaces.Signature.{Signature}
use Rattle.al_check_interfaces.specs.declared.signatures.Declaring.{Declaring}
use Rattle.al_check_interfaces.specs.declared.signatures.Declaring.TheVariants as declared

-- `true`, ignoring ASCII case, in any style
abbrev pub is_true : Node → Bool
is_true n = option_map_or (λ s. same_name (text_of s) (codes "true")) (scalar_in n) false

abbrev pub is_required : Node → Bool
is_required n = option_map_or is_true (value_at (codes "required") n) false

-- a secret has no default
abbrev pub has_default : Declaring → Node → Bool
has_default declared.Secrets n = false
has_default by n = has_value (codes "default") n

-- inputs of actions are strings, and so are secrets
abbrev pub type_taken : Declaring → Node → InputType
type_taken declared.CallInputs n = input_of n
type_taken by n = input.String

abbrev pub parameter : Declaring → Scalar × Node → Parameter
parameter by e =
    record {
      name = key_of e;
      required = is_required e.1;
      has_default = has_default by e.1;
      takes = type_taken by e.1;
    }

abbrev pub parameters : Declaring → List (List ℕ) → Node → List Parameter
parameters by ks n = map (parameter by) (declared_below ks n)

abbrev pub name_of : Node → Option (List ℕ)
name_of n = option_map text_of (text_at_key (codes "name") n)

abbrev pub says_call : Scalar → Bool
says_call s = bytes_eq (text_of s) (codes "workflow_call")

-- `on` names `workflow_call` in any form
abbrev pub names_call : Node → Bool
names_call on = list_any says_call (texts_in on) || has_value (codes "workflow_call") on

abbrev pub of_call : List ℕ → List (List ℕ)
of_call k = codes "on" ∷ codes "workflow_call" ∷ k ∷ []

abbrev pub signature_of : FileKind → Node → Signature
signature_of kind.Workflow n = record {
  name = name_of n;
  role =
      if option_map_or names_call (value_at (codes "on") n) false then role.Callable
      else role.Workflow;
  inputs = parameters declared.CallInputs (of_call (codes "inputs")) n;
  secrets = parameters declared.Secrets (of_call (codes "secrets")) n;
  outputs = keys_in (declared_below (of_call (codes "outputs")) n);
}
signature_of kind.Action n = record {
  name = name_of n;
  role = if is_composite n then role.Composite else role.Action;
  inputs = parameters declared.ActionInputs (codes "inputs" ∷ []) n;
  secrets = [];
  outputs = keys_in (declared_below (codes "outputs" ∷ []) n);
}

-- the interface of a file with this root
abbrev pub interface_of : FileKind → Node → Interface
interface_of k (mapping es at) = Readable (signature_of k (mapping es at))
interface_of k n = Unreadable
