-- Terms for rows of trees.
use Rattle.std.specs.Prelude.{ℕ, ◌+◌, List, length}
use Rattle.al_base.specs.declared.faults.Span.{Span}
use Rattle.al_base.specs.Spans.{span}
use Rattle.al_expr_grammar.specs.declared.token.Operator.{Operator}
use Rattle.al_expr_grammar.specs.Tree.{Sign, sign, Tree, Named, Path, Chain, StepTree, Property}
use Rattle.al_expr_grammar.specs.Tree.{steps_of, operands_of}

-- the span of a mark of one byte
abbrev pub mark_at : ℕ → Span
mark_at at = span at (at + 1)

abbrev pub name_at : ℕ → List ℕ → Tree
name_at at text = Named text (span at (at + length text))

abbrev pub property_at : ℕ → List ℕ → StepTree
property_at at text = Property (mark_at at) text (span (at + 1) (at + 1 + length text))

-- an operator with this start and end, and the operand after it
abbrev pub operation : Operator → ℕ → ℕ → Tree → Sign × Tree
operation o start end t = (sign o (span start end), t)

abbrev pub path : Tree → List StepTree → Tree
path t ss = Path t (steps_of ss)

abbrev pub chain : Tree → List (Sign × Tree) → Tree
chain t os = Chain t (operands_of os)
