use Rattle.std.proofs.Common.{ap, ◌∙◌, append_assoc}
use Rattle.al_expr_typing.specs.Meaning.{typed}
use Rattle.al_expr_typing.proofs.calls.call_from.Goals as goal

pub returns-clause-ok : goal.returns-clause-ok
returns-clause-ok c = λ ms.
    let b = rw c.signature-signature.ensures at c.in_ok-check_arguments.ensures ms in
    ap (λ u. typed u c.check_format.new.faults) (c.returned_type.ensures.ty ms)
    ∙ rw (c.in-Some.is, c.signature-signature.ensures, c.in_ok-check_format.ensures ms, b, c.in_ok-check_available.ensures) (simp append_assoc)
