use Rattle.std.proofs.Common.{◌≡◌, None}
use Rattle.al_expr_grammar.specs.Refusal.{Spells, fault_of_content}
use Rattle.al_expr_grammar.specs.View.{expr_view}
use Rattle.al_expr_grammar.proofs.Spelled.{spelled}
use Rattle.al_check_calls.proofs.types.content_type.Goals as goal

pub returns-clause-ty : goal.returns-clause-ty
returns-clause-ty c =
    let content = c.args.content.now in
    let gives : Spells content (expr_view c.in-Ok.expr) = rw c.in-Ok.is at c.in_ok-expr.ensures.tree in
    let none : fault_of_content content ≡ None = rw c.in-Ok.is at c.in_ok-expr.ensures.none in
    rw (none, spelled content (expr_view c.in-Ok.expr) gives) c.type_of.ensures.ty
