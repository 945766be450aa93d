-- The span of an expression, its own brackets included.
use Rattle.al_base.specs.declared.faults.Span.{Span}
use Rattle.al_base.specs.Spans.{span}
use Rattle.al_expr_grammar.specs.Tree as tree
use Rattle.al_expr_grammar.specs.Tree.{Tree, Constant, Named, Call, Group, Negated, Path}
use Rattle.al_expr_grammar.specs.Tree.{Chain, PathSteps, NoStep, PropertyThen, AllThen, IndexThen}
use Rattle.al_expr_grammar.specs.Tree.{Operands, NoOperand, OperandThen}

-- from the start of one span to the end of another
abbrev pub across : Span → Span → Span
across a b = span a.start b.end

-- from the span of what is before a path's steps up to the end of the last step
abbrev pub with_steps : Span → PathSteps → Span
with_steps x NoStep = x
with_steps x (PropertyThen d b s ss) = with_steps (across x s) ss
with_steps x (AllThen a b ss) = with_steps (across x b) ss
with_steps x (IndexThen a t b ss) = with_steps (across x b) ss

abbrev mutual
  pub extent : Tree → Span
  extent (Constant w s) = s
  extent (tree.Number b s) = s
  extent (tree.Text b s) = s
  extent (Named b s) = s
  extent (Call b s as' e) = across s e
  extent (Group t s e) = across s e
  extent (Negated s t) = across s (extent t)
  extent (Path t ss) = with_steps (extent t) ss
  extent (Chain t os) = with_operands (extent t) os

  -- up to the end of a chain's last operand, from the first
  pub with_operands : Span → Operands → Span
  with_operands x NoOperand = x
  with_operands x (OperandThen o t os) = with_operands (across x (extent t)) os
