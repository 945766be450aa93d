use Rattle.std.proofs.Common.{◌∙◌, ap, refl}
use Rattle.al_types.specs.Types.{Any, Present, object_type}
use Rattle.al_expr_types.specs.Types.{arrays_of}
use Rattle.al_expr_types.specs.declared.ty.Base.TheVariants as base
use Rattle.al_expr_types.proofs.Fusing.{object_scalar}
use Rattle.al_expr_types.proofs.Joins.{even, uneven}
use Rattle.al_expr_types.proofs.joining.ObjectJoin.and.Goals as goal

pub returns-then-self-t-clause-ty : goal.returns-then-self-t-clause-ty
returns-then-self-t-clause-ty c = λ ms.
    ap Present (uneven ms c.args.self.arrays c.min.result _ c.args.t c.any_in_arrays.result (λ a. refl) c.if-self-t.true c.min.ensures (c.any_in_arrays.ensures.ty ms))

pub returns-in-Scalar-clause-ty : goal.returns-in-Scalar-clause-ty
returns-in-Scalar-clause-ty c = λ ms.
    ap Present (c.any_in_arrays-in-Scalar.ensures.ty ms
    ∙ even ms c.args.self.arrays _ c.args.t (base.Scalar c.in-Scalar.field-0) Any c.if-self-t.false c.in-Scalar.is (object_scalar _ c.in-Scalar.field-0))

pub returns-in_ok-and_object-in-Object-clause-ty : goal.returns-in_ok-and_object-in-Object-clause-ty
returns-in_ok-and_object-in-Object-clause-ty c = λ ms.
    let e = c.in_ok-and_object-in-Object.ensures in
    ap Present ((λ d. arrays_of (e.arrays d) (object_type (e.objects ms d)))
    ∙ even ms c.args.self.arrays _ c.args.t (base.Object c.in-Object.n) _ c.if-self-t.false c.in-Object.is refl)
