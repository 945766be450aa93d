use Rattle.std.proofs.Common.{◌++◌, ◌∷◌, [], map, sym, ap, ◌∙◌, append-nil, None, Some}
use Rattle.std.proofs.lemmas.Result.{on_ok_weaker}
use Rattle.al_base.specs.declared.codes.ExpressionCode.TheVariants as code
use Rattle.al_expr_grammar.specs.Refusal.{expression_fault}
use Rattle.al_expr_grammar.specs.View.{expr_view, step_of}
use Rattle.al_expr_typing.proofs.Paths.{untrusted_is}
use Rattle.al_expr_typing.proofs.typing.check_untrusted.Goals as goal

pub returns-in-Some-2 : goal.returns-in-Some-2
returns-in-Some-2 c =
    let n = rw c.in-Some.is at c.base_name.ensures in
    let k = rw c.in-Some-2.is at c.in_ok-chain.ensures in
    let text = c.as_str.result.now in
    let now = c.args.faults.now in
    rw (c.if-not-around.false, c.if-around.false, untrusted_is _ (expr_view c.args.base.now) (map step_of c.args.steps.now) (Some text) n (ap Some c.as_str.ensures.value ∙ k))
    (on_ok_weaker c.report_text.result (λ e. e ∙ ap (λ s. now ++ expression_fault code.Untrusted s (text ∷ []) ∷ []) c.path_extent-whole.ensures) c.report_text.ensures)

pub returns-in-None : goal.returns-in-None
returns-in-None c =
    let n = rw c.in-Some.is at c.base_name.ensures in
    let k = rw c.in-None.is at c.in_ok-chain.ensures in
    rw (c.if-not-around.false, c.if-around.false, untrusted_is _ (expr_view c.args.base.now) (map step_of c.args.steps.now) None n k) (sym (append-nil c.args.faults.now))
