-- Which tokens spell which tree.
use Rattle.std.specs.Prelude.{◌≡◌, ℕ, zero, suc, List, [], ◌∷◌}
use Rattle.al_expr_grammar.specs.declared.token.Operator.{Operator}
use Rattle.al_expr_grammar.specs.declared.token.Operator.TheVariants as op
use Rattle.al_base.specs.declared.faults.Span.{Span}
use Rattle.al_expr_grammar.specs.declared.token.Keyword.{Keyword}
use Rattle.al_expr_grammar.specs.declared.token.TokenKind.TheVariants as kind
use Rattle.al_expr_grammar.specs.Lexeme.{Lexeme, lexeme}
use Rattle.al_expr_grammar.specs.Tree.{Sign, sign, Tree, Constant, Number, Text, Named}
use Rattle.al_expr_grammar.specs.Tree.{Call, Group, Negated, Path, Chain, StepTree, Property}
use Rattle.al_expr_grammar.specs.Tree.{All, Index, steps_of, operands_of, arguments_of}

-- the levels of the grammar
pub data Nonterminal : Type 0 where
  Binary : ℕ → Nonterminal
  Unary : Nonterminal
  Postfix : Nonterminal
  Primary : Nonterminal

-- the level of an operator, from 0, the tightest, to 3, the loosest
abbrev pub level_of : Operator → ℕ
level_of op.Or = 3
level_of op.And = 2
level_of op.Equal = 1
level_of op.NotEqual = 1
level_of _ = 0

-- the operands of a level
abbrev pub below : ℕ → Nonterminal
below zero = Unary
below (suc l) = Binary l

mutual
  -- the tokens begin with those of the tree, and the rest is left
  pub data Derives : Nonterminal → List Lexeme → Tree → List Lexeme → Type 0 where
    single : {l : ℕ} {ts rest : List Lexeme} {t : Tree} → Derives (below l) ts t rest
        → Derives (Binary l) ts t rest
    chain : {l : ℕ} {ts mid rest : List Lexeme} {t : Tree} {o : Sign
        × Tree} {os : List (Sign × Tree)} →
        Derives (below l) ts t mid → Operators l mid (o ∷ os) rest
        → Derives (Binary l) ts (Chain t (operands_of (o ∷ os))) rest
    positive : {ts rest : List Lexeme} {t : Tree} → Derives Postfix ts t rest
        → Derives Unary ts t rest
    negated : {b : List ℕ} {s : Span} {ts rest : List Lexeme} {t : Tree} → Derives Unary ts t rest
        → Derives Unary (lexeme kind.Bang b s ∷ ts) (Negated s t) rest
    bare : {ts rest : List Lexeme} {t : Tree} → Derives Primary ts t rest
        → Derives Postfix ts t rest
    path : {ts mid rest : List Lexeme} {t : Tree} {s : StepTree} {ss : List StepTree} →
        Derives Primary ts t mid → Walks mid (s ∷ ss) rest
        → Derives Postfix ts (Path t (steps_of (s ∷ ss))) rest
    constant : {w : Keyword} {b : List ℕ} {s : Span} {rest : List Lexeme}
        → Derives Primary (lexeme (kind.Keyword w) b s ∷ rest) (Constant w s) rest
    number : {b : List ℕ} {s : Span} {rest : List Lexeme}
        → Derives Primary (lexeme kind.Number b s ∷ rest) (Number b s) rest
    text : {b : List ℕ} {s : Span} {rest : List Lexeme}
        → Derives Primary (lexeme kind.Text b s ∷ rest) (Text b s) rest
    name : {b : List ℕ} {s : Span} {rest : List Lexeme}
        → Derives Primary (lexeme kind.Name b s ∷ rest) (Named b s) rest
    call_empty : {b c d : List ℕ} {s u e : Span} {rest : List Lexeme} →
        Derives Primary (lexeme kind.Name b s ∷ lexeme kind.Open c u ∷ lexeme kind.Close d e
        ∷ rest) (Call b s (arguments_of []) e) rest
    call : {b c d : List ℕ} {s u e : Span} {ts mid rest : List Lexeme} {t : Tree} {more : List Tree}
        →
        Derives (Binary 3) ts t mid → Lists mid more (lexeme kind.Close d e ∷ rest)
        → Derives Primary (lexeme kind.Name b s ∷ lexeme kind.Open c u
        ∷ ts) (Call b s (arguments_of (t ∷ more)) e) rest
    group : {b c : List ℕ} {s e : Span} {ts rest : List Lexeme} {t : Tree} →
        Derives (Binary 3) ts t (lexeme kind.Close c e ∷ rest)
        → Derives Primary (lexeme kind.Open b s ∷ ts) (Group t s e) rest

  -- operators of one level with their operands
  pub data Operators : ℕ → List Lexeme → List (Sign × Tree) → List Lexeme → Type 0 where
    no_more : {l : ℕ} {ts : List Lexeme} → Operators l ts [] ts
    one_more : {l : ℕ} {o : Operator} {b : List ℕ} {s : Span} {ts mid rest : List Lexeme} {t : Tree}
        {os : List (Sign × Tree)} →
        level_of o ≡ l → Derives (below l) ts t mid → Operators l mid os rest
        → Operators l (lexeme (kind.Infix o) b s ∷ ts) ((sign o s, t) ∷ os) rest

  -- the steps of a path
  pub data Walks : List Lexeme → List StepTree → List Lexeme → Type 0 where
    arrived : {ts : List Lexeme} → Walks ts [] ts
    to_property : {b c : List ℕ} {s d : Span} {ts rest : List Lexeme} {ss : List StepTree} →
        Walks ts ss rest
        → Walks (lexeme kind.Dot c d ∷ lexeme kind.Name b s ∷ ts) (Property d b s ∷ ss) rest
    to_keyword : {w : Keyword} {b c : List ℕ} {s d : Span} {ts rest : List Lexeme}
        {ss : List StepTree} →
        Walks ts ss rest → Walks (lexeme kind.Dot c d ∷ lexeme (kind.Keyword w) b s
        ∷ ts) (Property d b s ∷ ss) rest
    to_all : {b c : List ℕ} {s d : Span} {ts rest : List Lexeme} {ss : List StepTree} →
        Walks ts ss rest
        → Walks (lexeme kind.Dot c d ∷ lexeme kind.Star b s ∷ ts) (All d s ∷ ss) rest
    to_each : {b c a : List ℕ} {s d e : Span} {ts rest : List Lexeme} {ss : List StepTree} →
        Walks ts ss rest → Walks (lexeme kind.OpenIndex c d ∷ lexeme kind.Star b s
        ∷ lexeme kind.CloseIndex a e ∷ ts) (All d e ∷ ss) rest
    to_index : {b c : List ℕ} {s e : Span} {ts mid rest : List Lexeme} {t : Tree}
        {ss : List StepTree} →
        Derives (Binary 3) ts t (lexeme kind.CloseIndex c e ∷ mid) → Walks mid ss rest
        → Walks (lexeme kind.OpenIndex b s ∷ ts) (Index s t e ∷ ss) rest

  -- further arguments of a call, each after a comma
  pub data Lists : List Lexeme → List Tree → List Lexeme → Type 0 where
    listed : {ts : List Lexeme} → Lists ts [] ts
    and_next : {b : List ℕ} {s : Span} {ts mid rest : List Lexeme} {t : Tree} {more : List Tree} →
        Derives (Binary 3) ts t mid → Lists mid more rest
        → Lists (lexeme kind.Comma b s ∷ ts) (t ∷ more) rest

-- the tree of all of the tokens
abbrev pub IsTreeOf : Tree → List Lexeme → Type 0
IsTreeOf t ts = Derives (Binary 3) ts t []
