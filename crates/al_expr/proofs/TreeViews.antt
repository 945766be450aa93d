-- The view of an object type, by the list of its fields.
use Rattle.std.proofs.Common.{◌≡◌, ◌∷◌, map, refl, ap, ◌∙◌, Option, Some, None}
use Rattle.std.specs.Global.{Global}
use Rattle.std.specs.Prelude.{Box, Vec, string_bytes}
use Rattle.al_types.specs.Types.{object_type}
use Rattle.al_expr.specs.Trees.{field_of, fields_in, listed_parts, rest_in, rest_of, ty_of}
use Rattle.al_expr.specs.declared.trees.Ty.{Ty}
use Rattle.al_expr.specs.declared.trees.Ty as code
use Rattle.al_expr.specs.declared.trees.Field.{Field}
use Rattle.al_expr.specs.declared.trees.Ty.{Row_of-Field, end_of-Field, more_of-Field, items-the_row-Field, back-Ty-Object-1}
use Rattle.al_expr.specs.declared.trees.Ty.TheBlock.{hidden-the_row-Field-0, items_hidden-the_row-Field-0}

fields_listed : (n : _) (k : Row_of-Field n) → fields_in k ≡ map field_of (items-the_row-Field n k)
fields_listed _ end_of-Field = refl
fields_listed _ (more_of-Field name t rest) = ap (λ ts. (string_bytes name, ty_of t) ∷ ts) (fields_listed _ rest)

rest_held : (r : Option (Box Ty Global)) → rest_in (back-Ty-Object-1 r) ≡ rest_of r
rest_held None = refl
rest_held (Some b) = refl

pub object_view : (fs : Vec Field Global) (rest : Option (Box Ty Global)) → ty_of (code.Object fs rest) ≡ object_type (listed_parts (map field_of fs.items) (rest_of rest))
object_view fs rest =
    let fields = fields_listed _ (hidden-the_row-Field-0 fs) ∙ ap (map field_of) (items_hidden-the_row-Field-0 fs) in
    λ d. object_type (listed_parts (fields d) (rest_held rest d))
