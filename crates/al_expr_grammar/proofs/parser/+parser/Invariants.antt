use Rattle.std.proofs.Common.{◌≡◌, ◌+◌, ◌*◌, ◌<◌, ◌∷◌, length, map}
use Rattle.al_expr_grammar.specs.Lexeme.{seen, kinds}
use Rattle.al_expr_grammar.specs.Parsed.{Parsed, PartOfChain, EndsRule, ArgumentsPart}
use Rattle.al_expr_grammar.specs.View.{expr_view, step_of, operand_of}
use Rattle.al_expr_grammar.specs.Grammar.{below}
use Rattle.al_expr_grammar.proofs.Chains.{PathBegun}
use Rattle.al_expr_grammar.proofs.parser.+parser.Given as goal

abbrev pub decreases-chain : goal.decreases-chain
decreases-chain l = 16 * length (map seen l.tokens.now) + 8

abbrev pub decreases-operand : goal.decreases-operand
decreases-operand l = 16 * length (map seen l.tokens.now) + 7

abbrev pub decreases-unary : goal.decreases-unary
decreases-unary l = 16 * length (map seen l.tokens.now) + 6

abbrev pub decreases-postfix : goal.decreases-postfix
decreases-postfix l = 16 * length (map seen l.tokens.now) + 5

abbrev pub decreases-primary : goal.decreases-primary
decreases-primary l = 16 * length (map seen l.tokens.now) + 4

abbrev pub decreases-step : goal.decreases-step
decreases-step l = 16 * length (map seen l.tokens.now) + 4

abbrev pub decreases-call : goal.decreases-call
decreases-call l = 16 * length (map seen l.tokens.now) + 16

abbrev pub decreases-arguments : goal.decreases-arguments
decreases-arguments l = 16 * length (map seen l.tokens.now) + 15

abbrev pub decreases-group : goal.decreases-group
decreases-group l = 16 * length (map seen l.tokens.now) + 15

abbrev pub decreases-index : goal.decreases-index
decreases-index l = 16 * length (map seen l.tokens.now) + 15

abbrev pub invariant-operand-levels : goal.invariant-operand-levels
invariant-operand-levels l = Parsed (below l.tighter) l.room (map seen l.fn.tokens) (expr_view l.expr) (map seen l.left)

abbrev pub invariant-chain-operators : goal.invariant-chain-operators
invariant-chain-operators l = record {
  same : l.first ≡ l.initial.first;
  so_far : PartOfChain l.level l.room (seen l.fn.sign ∷ map seen l.fn.tokens) (map operand_of l.more.items) (map seen l.left);
  some : 0 < length l.more.items;
  stops : EndsRule (below l.level) (kinds (map seen l.left));
}

abbrev pub decreases-chain-operators : goal.decreases-chain-operators
decreases-chain-operators l = length (map seen l.left)

abbrev pub invariant-postfix-walk : goal.invariant-postfix-walk
invariant-postfix-walk l = record {
  so_far : PathBegun l.room (map seen l.fn.tokens) (expr_view l.base) (map step_of l.steps.items) (map seen l.left);
  some : 0 < length l.steps.items;
}

abbrev pub decreases-postfix-walk : goal.decreases-postfix-walk
decreases-postfix-walk l = length (map seen l.left)

abbrev pub invariant-arguments-list : goal.invariant-arguments-list
invariant-arguments-list l = ArgumentsPart l.room (map seen l.fn.tokens) (map expr_view l.given.items) (map seen l.left)

abbrev pub decreases-arguments-list : goal.decreases-arguments-list
decreases-arguments-list l = length (map seen l.left)
