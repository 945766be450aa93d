use Rattle.std.proofs.Common.{◌++◌, ◌∙◌, ap}
use Rattle.al_expr_grammar.specs.View.{expr_view}
use Rattle.al_expr_typing.specs.Meaning.{faults_found, meaning_of, type_found}
use Rattle.al_expr.proofs.typing.type_of.Goals as goal

pub returns-clause-ty : goal.returns-clause-ty
returns-clause-ty c =
    c.in_ok-tree.ensures ∙ c.in_ok-ty.ensures.ty ∙ ap (λ sc. type_found (meaning_of sc (expr_view c.args.expr.now))) c.in_ok-scope.ensures.same

pub returns-clause-faults : goal.returns-clause-faults
returns-clause-faults c =
    let found = rw c.new-faults.ensures at c.in_ok-ty.ensures.faults in
    c.in_ok-append_to.ensures
    ∙ ap (λ l. c.args.out.now.items ++ l) (found ∙ ap (λ sc. faults_found (meaning_of sc (expr_view c.args.expr.now))) c.in_ok-scope.ensures.same)
