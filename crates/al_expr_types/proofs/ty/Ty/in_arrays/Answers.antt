use Rattle.std.proofs.Common.{◌≡◌, ◌+◌, ◌∙◌, ap, arith}
use Rattle.al_expr_types.specs.Types.{arrays_of, base_type}
use Rattle.al_expr_types.proofs.Fusing.{arrays_more}
use Rattle.al_expr_types.proofs.ty.Ty.in_arrays.Goals as goal

pub returns-in-Some-clause-ty : goal.returns-in-Some-clause-ty
returns-in-Some-clause-ty c = λ ms.
    let e : c.in-Some.all ≡ c.args.arrays + c.args.self.arrays = omega (arith, c.in-Some.ensures) in
    ap (λ n. arrays_of n (base_type ms c.args.self.of)) e ∙ arrays_more c.args.arrays c.args.self.arrays (base_type ms c.args.self.of)
