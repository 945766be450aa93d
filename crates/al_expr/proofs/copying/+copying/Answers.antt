use Rattle.std.proofs.Common.{◌∙◌, ap, map, sym}
use Rattle.al_types.specs.Types.{object_type}
use Rattle.al_expr.specs.Trees.{field_of, listed_parts, ty_of}
use Rattle.al_expr.proofs.TreeViews.{object_view}
use Rattle.al_expr.proofs.copying.+copying.Goals as goal

pub copy-returns-in_ok-rest-in-Object : goal.copy-returns-in_ok-rest-in-Object
copy-returns-in_ok-rest-in-Object t c =
    let fields = c.in_ok-fields-in-Object.ensures ∙ ap (map field_of) c.deref-in-Object.ensures.value in
    object_view c.in_ok-fields-in-Object.fields c.in_ok-rest-in-Object.rest
    ∙ (λ d. object_type (listed_parts (fields d) (c.in_ok-rest-in-Object.ensures d)))
    ∙ sym (ap ty_of c.in-Object.is ∙ object_view c.in-Object.fields c.in-Object.rest)
