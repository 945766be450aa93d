-- An expression without its location in memory.
use Rattle.std.specs.Prelude.{ℕ, List, [], ◌∷◌}
use Rattle.al_expr_grammar.specs.declared.token.Operator.{Operator}
use Rattle.al_base.specs.declared.faults.Span.{Span}
use Rattle.al_expr_grammar.specs.declared.token.Keyword.{Keyword}

-- an operator, and its span
pub data Sign : Type 0 where
  sign : Operator → Span → Sign

mutual
  pub data Tree : Type 0 where
    Constant : Keyword → Span → Tree
    -- number and string literals as written, and a name
    Number Text Named : List ℕ → Span → Tree
    -- the name, its span, the arguments, and the closing bracket
    Call : List ℕ → Span → Arguments → Span → Tree
    -- an expression in brackets
    Group : Tree → Span → Span → Tree
    Negated : Span → Tree → Tree
    Path : Tree → PathSteps → Tree
    Chain : Tree → Operands → Tree

  -- the steps of a path
  pub data PathSteps : Type 0 where
    NoStep : PathSteps
    -- the dot, and the name with its span
    PropertyThen : Span → List ℕ → Span → PathSteps → PathSteps
    -- the first and the last token
    AllThen : Span → Span → PathSteps → PathSteps
    IndexThen : Span → Tree → Span → PathSteps → PathSteps

  -- the operators of one level, each with the operand after it
  pub data Operands : Type 0 where
    NoOperand : Operands
    OperandThen : Sign → Tree → Operands → Operands

  -- the arguments of a call
  pub data Arguments : Type 0 where
    NoArgument : Arguments
    ArgumentThen : Tree → Arguments → Arguments

pub data StepTree : Type 0 where
  Property : Span → List ℕ → Span → StepTree
  All : Span → Span → StepTree
  Index : Span → Tree → Span → StepTree

abbrev pub steps_of : List StepTree → PathSteps
steps_of [] = NoStep
steps_of (Property d n s ∷ ss) = PropertyThen d n s (steps_of ss)
steps_of (All a b ∷ ss) = AllThen a b (steps_of ss)
steps_of (Index a t b ∷ ss) = IndexThen a t b (steps_of ss)

abbrev pub operands_of : List (Sign × Tree) → Operands
operands_of [] = NoOperand
operands_of (o ∷ os) = OperandThen o.0 o.1 (operands_of os)

abbrev pub arguments_of : List Tree → Arguments
arguments_of [] = NoArgument
arguments_of (t ∷ ts) = ArgumentThen t (arguments_of ts)

-- a path, which is its base if it has no steps
abbrev pub path_of : Tree → List StepTree → Tree
path_of t [] = t
path_of t (s ∷ ss) = Path t (steps_of (s ∷ ss))

-- a chain, which is its first operand if it has no others
abbrev pub chain_of : Tree → List (Sign × Tree) → Tree
chain_of t [] = t
chain_of t (o ∷ os) = Chain t (operands_of (o ∷ os))
