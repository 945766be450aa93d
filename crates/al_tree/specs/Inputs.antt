-- The types that inputs are declared with (GitHub, "Workflow syntax",
-- `on.workflow_call.inputs.<input_id>.type`).
use Rattle.std.specs.Prelude.{ℕ, List, codes, if◌then◌else◌}
use Rattle.std.specs.Option.{option_map_or}
use Rattle.std.specs.Str.{bytes_eq}
use Rattle.al_scalar.specs.Scalar.{text_of}
use Rattle.al_yaml_tree.specs.Node.{Node}
use Rattle.al_tree.specs.Values.{text_at_key}
use Rattle.al_tree.specs.declared.inputs.InputType.{InputType}
use Rattle.al_tree.specs.declared.inputs.InputType.TheVariants as input

-- `boolean` and `number` in this spelling; anything else, and no type, is a string
abbrev pub input_named : List ℕ → InputType
input_named t = if bytes_eq t (codes "boolean") then input.Boolean
    else if bytes_eq t (codes "number") then input.Number else input.String

abbrev pub input_of : Node → InputType
input_of n =
    option_map_or (λ s. input_named (text_of s)) (text_at_key (codes "type") n) input.String
