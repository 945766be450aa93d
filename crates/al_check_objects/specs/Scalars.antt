-- The type of a scalar.
use Rattle.std.specs.Prelude.{if◌then◌else◌}
use Rattle.al_scalar.specs.Scalar.{Scalar, text_of}
use Rattle.al_scalar.specs.declared.styles.Class.{Class}
use Rattle.al_scalar.specs.declared.styles.Class.TheVariants as class
use Rattle.al_expr_grammar.specs.Lone.{is_lone_chunk}
use Rattle.al_expr_grammar.specs.declared.lone.Around.TheVariants.{Nothing}
use Rattle.al_tree.specs.Faults.{has_chunk}
use Rattle.al_types.specs.Types.{Type', Null, Number, Bool', String}

-- by its class
abbrev pub class_type : Class → Type'
class_type class.Null = Null
class_type class.Bool = Bool'
class_type class.Int = Number
class_type class.Float = Number
class_type class.Str = String

-- given the type of a text that is one expression; any other text with expressions is a string
abbrev pub scalar_type_with : Type' → Scalar → Type'
scalar_type_with one s =
    if has_chunk (text_of s) then (if is_lone_chunk Nothing (text_of s) then one else String) else
    class_type s.class
