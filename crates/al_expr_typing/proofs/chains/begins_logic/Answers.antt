use Rattle.std.proofs.Common.{◌≡◌, ◌∷◌, drop, arith}
use Rattle.al_expr_grammar.proofs.RestItems.{rest_item}
use Rattle.al_expr_grammar.proofs.TreeViews.{operand_view}
use Rattle.al_expr_typing.proofs.chains.begins_logic.Goals as goal

pub returns-in-len1-up : goal.returns-in-len1-up
returns-in-len1-up c =
    let r : c.args.operands.now ≡ c.first-item.result ∷ drop 1 c.args.operands.now = rest_item c.args.operands.now 0 c.first-item.result (omega (arith, c.in-len1-up.len_at_least)) c.first-item.is in
    rw (r, operand_view c.first-item.result) c.is_logic.ensures
