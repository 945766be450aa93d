use Rattle.std.proofs.Common.{◌∙◌, ap}
use Rattle.al_types.specs.Types.{object_with}
use Rattle.al_expr_types.specs.Tables.{objects_of}
use Rattle.al_expr_types.specs.Types.{rest_in}
use Rattle.al_expr_types.proofs.Returned.{both_ok}
use Rattle.al_check_objects.proofs.field_lists.FieldList.into_type.Goals as goal

pub returns-clause-ty : goal.returns-clause-ty
returns-clause-ty c =
    let rest = rest_in (objects_of c.args.types.now) c.args.rest in
    both_ok c.fields.result c.fields.ensures.ty c.fields.ensures.known
    (λ t is known ts h. record { known = known; is = is ∙ ap (λ us. object_with us rest) h.are })
