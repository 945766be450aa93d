-- The result of each function of the parser.
use Rattle.std.specs.Prelude.{◌≡◌, ◌≢◌, ℕ, zero, suc, ◌+◌, ◌<◌, ◌≤◌, List, ◌∷◌, length, map, Result}
use Rattle.std.specs.Prelude.{MatchResult}
use Rattle.std.specs.Borrow.{Bor}
use Rattle.al_expr_grammar.specs.declared.ast.Expr.{Expr}
use Rattle.al_expr_grammar.specs.declared.ast.PathStep.{PathStep}
use Rattle.al_expr_grammar.specs.declared.token.Token.{Token}
use Rattle.al_expr_grammar.specs.declared.token.TokenKind.{TokenKind}
use Rattle.al_expr_grammar.specs.declared.token.TokenKind.TheVariants.{Name, Open, OpenIndex, Comma}
use Rattle.al_expr_grammar.specs.declared.token.TokenKind.TheVariants.{Bang, Dot, Infix}
use Rattle.al_expr_grammar.specs.declared.parser.ParseError.{ParseError}
use Rattle.al_expr_grammar.specs.declared.parser.ParseError.TheVariants as error
use Rattle.al_base.specs.declared.faults.Span.{Span}
use Rattle.al_base.specs.Limits.{deepest_expression}
use Rattle.al_expr_grammar.specs.Lexeme.{Lexeme, lexeme, kinds, seen}
use Rattle.al_expr_grammar.specs.Tree.{Sign, Tree, StepTree}
use Rattle.al_expr_grammar.specs.Grammar.{Nonterminal, Binary, Unary, Postfix, Primary, level_of}
use Rattle.al_expr_grammar.specs.Grammar.{Derives, Operators, Walks, Lists}
use Rattle.al_expr_grammar.specs.View.{expr_view, step_of}
use Rattle.al_expr_grammar.specs.Table.{Verdict, Early, Unexpected, TooDeep, E, O, Frame, Call}
use Rattle.al_expr_grammar.specs.Table.{outside, scan}

-- No negation is open in the innermost bracket where a chain of operators begins.
abbrev pub StartsAt : Nonterminal → ℕ → Type 0
StartsAt (Binary l) k = k ≡ 0
StartsAt _ k = Unit {0}

-- The path doesn't continue.
abbrev pub EndsPath : List TokenKind → Type 0
EndsPath (Dot ∷ ts) = ⊥
EndsPath (OpenIndex ∷ ts) = ⊥
EndsPath _ = Unit {0}

-- The path doesn't continue, and no operator of this level or a tighter one follows.
abbrev pub EndsLevel : ℕ → List TokenKind → Type 0
EndsLevel l (Dot ∷ ts) = ⊥
EndsLevel l (OpenIndex ∷ ts) = ⊥
EndsLevel l (Infix o ∷ ts) = l < level_of o
EndsLevel l _ = Unit {0}

abbrev pub EndsRule : Nonterminal → List TokenKind → Type 0
EndsRule (Binary l) ts = EndsLevel l ts
EndsRule Unary ts = EndsPath ts
EndsRule Postfix ts = EndsPath ts
EndsRule Primary ts = Unit {0}

pub record Parsed (p : Nonterminal) (room : ℕ) (ts : List Lexeme) (t : Tree) (rest : List Lexeme) :
    Type 0 where
  pub derives : Derives p ts t rest
  pub goes : (k : ℕ) (st : List Frame) → StartsAt p k → k + outside st + room ≡ deepest_expression
      → scan E k st (kinds ts) ≡ scan O k st (kinds rest)
  pub stops : EndsRule p (kinds rest)
  pub shorter : length rest < length ts

-- Unless memory ran out, the verdict of the table is this fault.
abbrev pub IsVerdict : ParseError → Verdict → Type 0
IsVerdict error.Memory v = Unit {0}
IsVerdict (error.Unexpected zero) v = v ≡ Early
IsVerdict (error.Unexpected (suc left)) v = v ≡ Unexpected (suc left)
IsVerdict (error.TooDeep left) v = v ≡ TooDeep left

-- Where an operand is expected, the verdict is this fault.
abbrev pub Refused : Nonterminal → ℕ → List Lexeme → ParseError → Type 0
Refused p room ts e =
    (k : ℕ) (st : List Frame) → StartsAt p k → k + outside st + room ≡ deepest_expression
    → IsVerdict e (scan E k st (kinds ts))

-- The result of parsing an expression: a tree of this kind for a prefix of the tokens, with the
-- tokens left, or the fault.
abbrev pub Parses : Nonterminal → ℕ → List Lexeme
    → Result (Expr × Bor (List Token)) ParseError → Type 0
Parses p room ts result =
    MatchResult result (λ x. Parsed p room ts (expr_view x.0) (map seen x.1.now))
    (λ e. Refused p room ts e)

-- The part of a chain of operators read so far.
pub record PartOfChain (l room : ℕ) (ts : List Lexeme) (os : List (Sign × Tree))
    (rest : List Lexeme) : Type 0 where
  pub derives : Operators l ts os rest
  pub goes : (st : List Frame) → outside st + room ≡ deepest_expression
      → scan O 0 st (kinds ts) ≡ scan O 0 st (kinds rest)
  pub shorter : length rest ≤ length ts

-- The part of a path read so far.
pub record PartOfPath (room : ℕ) (ts : List Lexeme) (ss : List StepTree) (rest : List Lexeme) :
    Type 0 where
  pub derives : Walks ts ss rest
  pub goes : (k : ℕ) (st : List Frame) → k + outside st + room ≡ deepest_expression
      → scan O k st (kinds ts) ≡ scan O k st (kinds rest)
  pub shorter : length rest ≤ length ts

-- one step of a path
pub record StepRead (room : ℕ) (ts : List Lexeme) (s : StepTree) (rest : List Lexeme) : Type 0 where
  pub derives : (ss : List StepTree) (after : List Lexeme) → Walks rest ss after
      → Walks ts (s ∷ ss) after
  pub goes : (k : ℕ) (st : List Frame) → k + outside st + room ≡ deepest_expression
      → scan O k st (kinds ts) ≡ scan O k st (kinds rest)
  pub shorter : length rest < length ts

-- After an operand, the verdict of the table is this fault.
abbrev pub StepRefused : ℕ → List Lexeme → ParseError → Type 0
StepRefused room ts e = (k : ℕ) (st : List Frame) → k + outside st + room ≡ deepest_expression
    → IsVerdict e (scan O k st (kinds ts))

-- the result of parsing a step
abbrev pub ParsesStep : ℕ → List Lexeme → Result (PathStep × Bor (List Token)) ParseError → Type 0
ParsesStep room ts result =
    MatchResult result (λ x. StepRead room ts (step_of x.0) (map seen x.1.now))
    (λ e. StepRefused room ts e)

-- No token of this kind comes first.
abbrev pub Lacks : TokenKind → List TokenKind → Type 0
Lacks k ts = (rest : List TokenKind) → ts ≢ k ∷ rest

-- the fault if the first token isn't allowed here
abbrev pub error_at : List Lexeme → ParseError
error_at ts = error.Unexpected (length ts)

-- the arguments of a call read so far, at least one, inside a call after some negations
pub record ArgumentsPart (room : ℕ) (ts : List Lexeme) (all : List Tree) (rest : List Lexeme) :
    Type 0 where
  pub first : Tree
  pub more : List Tree
  pub mid : List Lexeme
  pub is : all ≡ first ∷ more
  pub begins : Derives (Binary 3) ts first mid
  pub lists : Lists mid more rest
  pub goes : (k : ℕ) (st : List Frame) → 1 + k + outside st + room ≡ deepest_expression
      → scan E 0 ((Call, k) ∷ st) (kinds ts) ≡ scan O 0 ((Call, k) ∷ st) (kinds rest)
  pub stops : EndsLevel 3 (kinds rest)
  pub shorter : length rest < length ts

-- all arguments of a call
pub record ArgumentsRead (room : ℕ) (ts : List Lexeme) (all : List Tree) (rest : List Lexeme) :
    Type 0 where
  pub part : ArgumentsPart room ts all rest
  pub ends : Lacks Comma (kinds rest)

-- A call with these tokens after its opening bracket is refused.
abbrev pub ArgumentsRefused : ℕ → List Lexeme → ParseError → Type 0
ArgumentsRefused room ts e = (outer : ℕ) (b c : List ℕ) (s u : Span) → room + 1 ≡ outer
    → Refused Primary outer (lexeme Name b s ∷ lexeme Open c u ∷ ts) e

-- No operator of this level comes first.
abbrev pub NoOperator : ℕ → List TokenKind → Type 0
NoOperator l (Infix o ∷ ts) = level_of o ≢ l
NoOperator l _ = Unit {0}

-- No negation comes first.
abbrev pub NoBang : List TokenKind → Type 0
NoBang (Bang ∷ ts) = ⊥
NoBang _ = Unit {0}

-- The first token isn't of the kind that is required here.
pub record IsStray (ts : List Lexeme) (k : TokenKind) (e : ParseError) : Type 0 where
  pub fault : e ≡ error_at ts
  pub other : Lacks k (kinds ts)
