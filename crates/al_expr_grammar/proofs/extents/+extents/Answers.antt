use Rattle.std.proofs.Common.{◌≡◌, sym, ap, ◌∙◌}
use Rattle.al_expr_grammar.specs.Extents.{extent}
use Rattle.al_expr_grammar.specs.View.{operand_of}
use Rattle.al_expr_grammar.proofs.RestItems.{rest_item}
use Rattle.al_expr_grammar.proofs.TreeViews.{operand_view}
use Rattle.al_expr_grammar.proofs.extents.+extents.Goals as goal

pub with_operands-loop-operand-preserved : goal.with_operands-loop-operand-preserved
with_operands-loop-operand-preserved t c =
    let r = rest_item c.args.operands.now c.loop-operand.operand-index c.operand-item.result c.loop-operand-test.true c.operand-item.is in
    let e : c.extent.result ≡ extent (operand_of c.operand-item.result).1 =
    c.extent.ensures ∙ sym (ap (λ o. extent o.1) (operand_view c.operand-item.result)) in
    rw (c.across-whole.ensures, e) (rw r at c.loop-operand.invariant)
