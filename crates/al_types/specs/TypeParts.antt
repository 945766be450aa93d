-- Types by their outermost form and their parts.
use Rattle.std.specs.Prelude.{Bool, true, false, Option, Some, None}
use Rattle.al_types.specs.declared.forms.Form.{Form}
use Rattle.al_types.specs.declared.forms.Form.TheVariants as form
use Rattle.al_types.specs.Types.{Type', Any, Null, Number, Bool', String, ArrayOf, ObjectOf}
use Rattle.al_types.specs.Types.{Optional, Absent, Present, fuse_type}

abbrev pub form_of : Type' → Form
form_of Any = form.Any
form_of Null = form.Null
form_of Number = form.Number
form_of Bool' = form.Bool
form_of String = form.String
form_of (ArrayOf a) = form.Array
form_of (ObjectOf at rest all) = form.Object

-- what two types have in common, if both are there
abbrev pub common_type : Option Type' → Option Type' → Option Type'
common_type None o = o
common_type (Some t) None = Some t
common_type (Some t) (Some u) = Some (fuse_type t u)

-- what strings have in common, unless there are none
abbrev pub string_unless : Bool → Optional
string_unless true = Absent
string_unless false = Present String
