use Rattle.std.proofs.Common.{◌≡◌, ◌∙◌, arith, sym, zero}
use Rattle.al_types.specs.TypeParts.{form_of}
use Rattle.al_expr_types.specs.Types.{arrays_of, base_type}
use Rattle.al_expr_types.proofs.ty.Ty.form.Goals as goal

pub returns-in-Scalar : goal.returns-in-Scalar
returns-in-Scalar c = λ ms.
    let none : zero ≡ c.args.self.arrays = omega (arith, c.if-self-gt0.false) in
    c.form.ensures ms ∙ (λ d. form_of (arrays_of (none d) (base_type ms (sym c.in-Scalar.is d))))
