-- The types of `inputs` (GitHub, "Contexts reference", `inputs`).
use Rattle.std.specs.Prelude.{ℕ, List, [], ◌∷◌, codes, map}
use Rattle.al_scalar.specs.Scalar.{Scalar}
use Rattle.al_types.specs.Types.{Type', Number, Bool', String}
use Rattle.al_yaml_tree.specs.Node.{Node}
use Rattle.al_tree.specs.Keys.{key_of, keys_in}
use Rattle.al_tree.specs.declared.files.FileKind.{FileKind}
use Rattle.al_tree.specs.declared.files.FileKind.TheVariants as kind
use Rattle.al_tree.specs.Declarations.{declared_below}
use Rattle.al_tree.specs.Inputs.{input_of}
use Rattle.al_tree.specs.declared.inputs.InputType.{InputType}
use Rattle.al_tree.specs.declared.inputs.InputType.TheVariants as input
use Rattle.al_types.specs.Strings.{named_strings}
use Rattle.al_check_objects.specs.Objects.{strictly}
use Rattle.al_types.specs.Puts.{TypedName, put_or_fuse, put_all}

-- the type that an input has in expressions
abbrev pub input_type : InputType → Type'
input_type input.Boolean = Bool'
input_type input.Number = Number
input_type input.String = String

abbrev pub input_field : Scalar × Node → TypedName
input_field e = (key_of e, input_type (input_of e.1))

-- the inputs that an event declares
abbrev pub event_inputs : List ℕ → Node → List TypedName
event_inputs event root =
    map input_field (declared_below (codes "on" ∷ event ∷ codes "inputs" ∷ []) root)

-- in a workflow those of its call, fused with those of its dispatch; in an action strings
abbrev pub inputs_type : FileKind → Node → Type'
inputs_type kind.Workflow root =
    strictly (put_all put_or_fuse (event_inputs (codes "workflow_call") root)
    (event_inputs (codes "workflow_dispatch") root))
inputs_type kind.Action root = named_strings (keys_in (declared_below (codes "inputs" ∷ []) root))
