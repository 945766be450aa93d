use Rattle.std.proofs.Common.{◌≡◌, ◌∙◌, ap, arith}
use Rattle.std.proofs.lemmas.Result.{IfOk-weaker}
use Rattle.al_types.specs.Types.{ArrayOf, or_any}
use Rattle.al_expr_types.specs.Tables.{objects_of}
use Rattle.al_expr_types.specs.Types.{type_in}
use Rattle.al_expr_typing.specs.Meaning.{typed}
use Rattle.al_expr_typing.proofs.Forms.{or_else_any}
use Rattle.al_expr_typing.proofs.TypedSteps.{unchanged}
use Rattle.al_expr_typing.proofs.steps.all.Goals as goal

pub returns-in_ok-common-in-Object-clause-ok : goal.returns-in_ok-common-in-Object-clause-ok
returns-in_ok-common-in-Object-clause-ok c =
    let ms = objects_of c.common.new.self in
    let old = c.args.faults.now in
    let elements = ap (type_in ms) c.unwrap_or.ensures ∙ or_else_any ms c.in_ok-common-in-Object.field-0 ∙ ap or_any c.in_ok-common-in-Object.ensures.ty in
    let plain : c.args.ty.arrays ≡ 0 = omega (arith, c.if-ty-gt0.false) in
    rw (plain, c.in-Object.is) (IfOk-weaker c.in_arrays.result _ _ (λ t is. ap (λ u. typed u old) (is ms ∙ ap ArrayOf elements) ∙ unchanged _ old) c.in_arrays.ensures.ty)
