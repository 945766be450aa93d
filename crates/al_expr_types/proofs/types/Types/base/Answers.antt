use Rattle.std.proofs.Common.{◌∙◌, ap, sym}
use Rattle.al_expr_types.specs.Types.{is_object_below}
use Rattle.al_expr_types.proofs.Below.{base_below}
use Rattle.al_expr_types.proofs.types.Types.base.Goals as goal

pub returns-in-Extension : goal.returns-in-Extension
returns-in-Extension c =
    let n = c.args.n in
    base_below n c.in-Extension.extension (sym (ap (is_object_below n) c.in-Extension.is) ∙ c.object.ensures.below)
