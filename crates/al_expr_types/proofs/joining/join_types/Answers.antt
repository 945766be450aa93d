use Rattle.std.proofs.Common.{◌∙◌, ap, sym}
use Rattle.std.proofs.lemmas.Result.{IfOk-weaker}
use Rattle.al_types.specs.Types.{Any, Present, fuse_type}
use Rattle.al_expr_types.specs.Types.{base_type, object_in, scalar_type}
use Rattle.al_expr_types.specs.declared.ty.Base.TheVariants as base
use Rattle.al_expr_types.proofs.Fusing.{beside_array, object_scalar, scalar_object}
use Rattle.al_expr_types.proofs.Joins.{even, uneven}
use Rattle.al_expr_types.proofs.joining.join_types.Goals as goal

pub returns-then-a-b-clause-ty : goal.returns-then-a-b-clause-ty
returns-then-a-b-clause-ty c = λ ms.
    let a = c.args.a in
    ap Present (uneven ms a.arrays c.min.result (base_type ms a.of) c.args.b c.any_in_arrays.result (λ t. (beside_array ms a.of t).0) c.if-a-b.true c.min.ensures
    (c.any_in_arrays.ensures.ty ms))

pub returns-in-Scalar-Scalar-clause-ty : goal.returns-in-Scalar-Scalar-clause-ty
returns-in-Scalar-Scalar-clause-ty c = λ ms.
    let a = c.args.a in
    let arm = c.in-Scalar-Scalar in
    ap Present (even ms a.arrays (base_type ms a.of) c.args.b (base.Scalar arm.y) (scalar_type c.fuse.result) c.if-a-b.false arm.is-1
    (ap (λ x. fuse_type (base_type ms x) (scalar_type arm.y)) arm.is-0 ∙ sym c.fuse.ensures))

pub returns-in-Scalar-Object-clause-ty : goal.returns-in-Scalar-Object-clause-ty
returns-in-Scalar-Object-clause-ty c = λ ms.
    let a = c.args.a in
    let arm = c.in-Scalar-Object in
    ap Present (c.any_in_arrays-in-Scalar-Object.ensures.ty ms ∙ even ms a.arrays (base_type ms a.of) c.args.b (base.Object arm.field-0-1) Any c.if-a-b.false arm.is-1
    (ap (λ x. fuse_type (base_type ms x) (base_type ms (base.Object arm.field-0-1))) arm.is-0 ∙ scalar_object arm.field-0-0 (object_in ms arm.field-0-1)))

pub returns-in-Object-Scalar-clause-ty : goal.returns-in-Object-Scalar-clause-ty
returns-in-Object-Scalar-clause-ty c = λ ms.
    let a = c.args.a in
    let arm = c.in-Object-Scalar in
    ap Present (c.any_in_arrays-in-Object-Scalar.ensures.ty ms ∙ even ms a.arrays (base_type ms a.of) c.args.b (base.Scalar arm.field-0-1) Any c.if-a-b.false arm.is-1
    (ap (λ x. fuse_type (base_type ms x) (base_type ms (base.Scalar arm.field-0-1))) arm.is-0 ∙ object_scalar (object_in ms arm.field-0-0) arm.field-0-1))

pub returns-in-Object-Object-clause-ty : goal.returns-in-Object-Object-clause-ty
returns-in-Object-Object-clause-ty c =
    let a = c.args.a in
    let arm = c.in-Object-Object in
    let b = base.Object arm.n in
    IfOk-weaker c.join_objects.result _ _
    (λ j is ms. is ms ∙ ap Present (even ms a.arrays (base_type ms a.of) c.args.b b _ c.if-a-b.false arm.is-1 (ap (λ x. fuse_type (base_type ms x) (base_type ms b)) arm.is-0)))
    c.join_objects.ensures.ty
