use Rattle.std.proofs.Common.{◌-◌, ◌∙◌, ap, arith, false, sym, true}
use Rattle.std.proofs.lemmas.Result.{IfOk-weaker}
use Rattle.al_expr_types.specs.Types.{base_type, type_in}
use Rattle.al_expr_typing.specs.Meaning.{faults_then}
use Rattle.al_expr_typing.proofs.Forms.{element_in}
use Rattle.al_expr_typing.proofs.TypedSteps.{unchanged}
use Rattle.al_expr_typing.proofs.steps.element.Goals as goal

pub returns-then-not-is_index-clause-ok : goal.returns-then-not-is_index-clause-ok
returns-then-not-is_index-clause-ok c =
    let ty = c.args.ty in
    IfOk-weaker c.not_indexable.result _ _
    (λ t ok ms.
    ok ms
    ∙ ap (faults_then c.args.faults.now)
    (sym (element_in c.args.whole (ty.arrays - 1) ty.arrays (base_type ms ty.of) (type_in ms c.args.by) false (omega (arith, c.if-ty-gt0.true))
    (sym (c.is_index.ensures ms) ∙ c.if-not-is_index.true))))
    c.not_indexable.ensures.ok

pub returns-then-ty-gt0-clause-ok : goal.returns-then-ty-gt0-clause-ok
returns-then-ty-gt0-clause-ok c = λ ms.
    let ty = c.args.ty in
    unchanged _ c.args.faults.now
    ∙ ap (faults_then c.args.faults.now)
    (sym (element_in c.args.whole (ty.arrays - 1) ty.arrays (base_type ms ty.of) (type_in ms c.args.by) true (omega (arith, c.if-ty-gt0.true))
    (sym (c.is_index.ensures ms) ∙ c.if-not-is_index.false)))
