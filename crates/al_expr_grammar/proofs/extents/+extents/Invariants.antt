use Rattle.std.proofs.Common.{◌≡◌, map, drop}
use Rattle.al_expr_grammar.specs.Extents.{extent, with_operands, with_steps}
use Rattle.al_expr_grammar.specs.Tree.{operands_of, steps_of}
use Rattle.al_expr_grammar.specs.View.{expr_view, operand_of, step_of}
use Rattle.al_expr_grammar.proofs.extents.+extents.Given as goal

abbrev pub invariant-with_operands-loop-operand : goal.invariant-with_operands-loop-operand
invariant-with_operands-loop-operand l = with_operands l.whole (operands_of (map operand_of (drop l.operand-index l.operands)))
    ≡ with_operands l.fn.first (operands_of (map operand_of l.operands))

abbrev pub invariant-path_extent-loop-step : goal.invariant-path_extent-loop-step
invariant-path_extent-loop-step l = with_steps l.whole (steps_of (map step_of (drop l.step-index l.steps)))
    ≡ with_steps (extent (expr_view l.fn.base)) (steps_of (map step_of l.steps))
