use Rattle.std.proofs.Common.{◌≡◌, ◌∙◌, ap, arith, sym}
use Rattle.al_types.specs.Types.{assignable_type}
use Rattle.al_expr_types.specs.Types.{arrays_of, base_type, type_in}
use Rattle.al_expr_types.proofs.Fusing.{assign_even, assign_fewer, assign_more}
use Rattle.al_expr_types.proofs.ty.Ty.is_assignable_to.Goals as goal

pub returns-then-self-to : goal.returns-then-self-to
returns-then-self-to c = λ ms.
    c.is_any.ensures ∙ sym (assign_more ms c.args.self.arrays c.args.to.arrays c.args.self.of (base_type ms c.args.to.of) c.if-self-to.true)

pub returns-then-to-self : goal.returns-then-to-self
returns-then-to-self c = λ ms.
    c.is_any-then-to-self.ensures ∙ sym (assign_fewer ms c.args.self.arrays c.args.to.arrays (base_type ms c.args.self.of) c.args.to.of c.if-to-self.true)

pub returns : goal.returns
returns c = λ ms.
    let same : c.args.self.arrays ≡ c.args.to.arrays = omega (arith, c.if-self-to.false, c.if-to-self.false) in
    c.is_assignable_to.ensures ms ∙ sym (assign_even c.args.self.arrays (base_type ms c.args.self.of) (base_type ms c.args.to.of))
    ∙ ap (λ k. assignable_type (type_in ms c.args.self) (arrays_of k (base_type ms c.args.to.of))) same
