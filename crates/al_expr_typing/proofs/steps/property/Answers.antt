use Rattle.std.proofs.Common.{◌∙◌, ap, sym}
use Rattle.std.proofs.lemmas.Result.{IfOk-weaker}
use Rattle.al_expr_types.specs.Tables.{objects_of}
use Rattle.al_expr_types.specs.Types.{base_type}
use Rattle.al_expr_typing.specs.Meaning.{property_of, typed, faults_then}
use Rattle.al_expr_typing.proofs.Forms.{after_arrays, in_arrays, property_arrays}
use Rattle.al_expr_typing.proofs.steps.property.Goals as goal

pub returns-clause-ok : goal.returns-clause-ok
returns-clause-ok c =
    let old = c.args.faults.now in
    let k = c.args.ty.arrays in
    let base = base_type (objects_of c.args.types.now) c.args.ty.of in
    let of = property_of c.args.step.name.now c.args.step.at c.args.step.whole base in
    IfOk-weaker c.in_arrays.result _ _
    (λ all is. ap (λ t. typed t c.base_property.new.faults) (is (objects_of c.base_property.new.types))
    ∙ ap (in_arrays k) c.in_ok-base_property.ensures.ok ∙ after_arrays k old of
    ∙ ap (faults_then old) (sym (property_arrays k c.args.step.name.now c.args.step.at c.args.step.whole base)))
    c.in_arrays.ensures.ty
