-- Tokens in which the table finds no fault spell a tree.
use Rattle.std.proofs.Common.{◌≡◌, ℕ, zero, suc, ◌<◌, ◌≤◌, List, [], ◌∷◌, length, sym, ◌∙◌, arith, inl, inr}
use Rattle.std.proofs.lemmas.Bool.{cases_eq}
use Rattle.al_base.specs.declared.faults.Span.{Span}
use Rattle.al_expr_grammar.specs.declared.token.TokenKind.TheVariants.{Name, Keyword, Number, Text, Open, Close, OpenIndex, CloseIndex, Dot, Comma, Star, Bang, Infix}
use Rattle.al_expr_grammar.specs.Lexeme.{Lexeme, lexeme, kinds}
use Rattle.al_expr_grammar.specs.Tree.{Sign, sign, Tree, StepTree, Property, All, Index}
use Rattle.al_expr_grammar.specs.Grammar.{Nonterminal, Binary, Unary, Postfix, Primary, level_of, below, Derives, single, chain, positive, negated, bare, path}
use Rattle.al_expr_grammar.specs.Grammar.{constant, number, text, name, call_empty, call, group, Operators, no_more, one_more}
use Rattle.al_expr_grammar.specs.Grammar.{Walks, arrived, to_property, to_keyword, to_all, to_each, to_index, Lists, listed, and_next}
use Rattle.al_expr_grammar.specs.Parsed.{NoBang, EndsPath, EndsLevel, EndsRule}
use Rattle.al_expr_grammar.specs.Table.{Fine, E, A, O, Frame, Group, Call, Index as IndexBracket}
use Rattle.al_expr_grammar.proofs.Chains.{ends_below}
use Rattle.al_expr_grammar.proofs.Rules.{at_most_three}
use Rattle.al_expr_grammar.proofs.Shape.{shape, uncalled}

-- The table finds no fault after an operand in these brackets.
abbrev IsFineAfter : List Frame → List Lexeme → Type 0
IsFineAfter st ts = shape O st (kinds ts) ≡ Fine

-- an expression at the start of the tokens, with no fault after it
data Reads (p : Nonterminal) (st : List Frame) (ts : List Lexeme) : Type 0 where
  read : (t : Tree) (rest : List Lexeme) → Derives p ts t rest → IsFineAfter st rest → EndsRule p (kinds rest) → length rest < length ts → Reads p st ts

-- further arguments, and the bracket that closes the call
data ReadsArguments (st : List Frame) (ts : List Lexeme) : Type 0 where
  given : (more : List Tree) (d : List ℕ) (e : Span) (rest : List Lexeme) → Lists ts more (lexeme Close d e ∷ rest) → IsFineAfter st rest → length rest < length ts
      → ReadsArguments st ts

data ReadsSteps (st : List Frame) (ts : List Lexeme) : Type 0 where
  walked : (ss : List StepTree) (rest : List Lexeme) → Walks ts ss rest → IsFineAfter st rest → EndsPath (kinds rest) → length rest ≤ length ts → ReadsSteps st ts

data ReadsOperators (l : ℕ) (st : List Frame) (ts : List Lexeme) : Type 0 where
  operated : (os : List (Sign × Tree)) (rest : List Lexeme) → Operators l ts os rest → IsFineAfter st rest → EndsLevel l (kinds rest) → length rest ≤ length ts
      → ReadsOperators l st ts

-- expressions in lists shorter than n, for use inside brackets
abbrev Inner : ℕ → Type 0
Inner n = (st : List Frame) (ts : List Lexeme) → length ts < n → shape E st (kinds ts) ≡ Fine → Reads (Binary 3) st ts

grouped : (st : List Frame) (b : List ℕ) (s : Span) (ts : List Lexeme) → Reads (Binary 3) ((Group, 0) ∷ st) ts → Reads Primary st (lexeme Open b s ∷ ts)
grouped st b s ts (read t (lexeme Close c e ∷ rest) d f h l) = read _ rest (group d) f tt (omega (arith, l))
grouped st b s ts (read t (lexeme Dot c e ∷ rest) d f h l) = absurd h
grouped st b s ts (read t (lexeme OpenIndex c e ∷ rest) d f h l) = absurd h
grouped st b s ts (read t (lexeme (Infix o) c e ∷ rest) d f h l) = absurd (omega (arith, h, at_most_three o))
grouped st b s ts (read t rest d f h l) = absurd cc

also : {st : List Frame} {ts us : List Lexeme} (s : StepTree) → ((ss : List StepTree) (rest : List Lexeme) → Walks us ss rest → Walks ts (s ∷ ss) rest)
    → length us ≤ length ts → ReadsSteps st us → ReadsSteps st ts
also s make l (walked ss rest w f h m) = walked (s ∷ ss) rest (make ss rest w) f h (omega (arith, l, m))

indexed : (st : List Frame) (b : List ℕ) (s : Span) (ts : List Lexeme) → ((us : List Lexeme) → length us < length ts → IsFineAfter st us → ReadsSteps st us)
    → Reads (Binary 3) ((IndexBracket, 0) ∷ st) ts → ReadsSteps st (lexeme OpenIndex b s ∷ ts)
indexed st b s ts walk (read t (lexeme CloseIndex c e ∷ us) d f h l) = also (Index s t e) (λ ss rest w. to_index d w) (omega (arith, l)) (walk us (omega (arith, l)) f)
indexed st b s ts walk (read t (lexeme Dot c e ∷ us) d f h l) = absurd h
indexed st b s ts walk (read t (lexeme OpenIndex c e ∷ us) d f h l) = absurd h
indexed st b s ts walk (read t (lexeme (Infix o) c e ∷ us) d f h l) = absurd (omega (arith, h, at_most_three o))
indexed st b s ts walk (read t us d f h l) = absurd cc

module _ (n : ℕ) (inner : Inner n) where
  arguments : (fuel : ℕ) (st : List Frame) (ts : List Lexeme) → length ts ≤ fuel → length ts < n → IsFineAfter ((Call, 0) ∷ st) ts → EndsLevel 3 (kinds ts) → ReadsArguments st ts
  arguments fuel st (lexeme Close d e ∷ rest) m k f h = given [] d e rest listed f (omega arith)
  arguments zero st (lexeme Comma b s ∷ us) m k f h = absurd (omega (arith, m))
  arguments (suc fuel) st (lexeme Comma b s ∷ us) m k f h = elim (inner ((Call, 0) ∷ st) us (omega (arith, k)) f) [
    | read t mid d g i l ↦ elim (arguments fuel st mid (omega (arith, m, l)) (omega (arith, k, l)) g i) [
      | given more c e rest w a z ↦ given (t ∷ more) c e rest (and_next d w) a (omega (arith, l, z))
    ]
  ]
  arguments fuel st (lexeme Dot b s ∷ us) m k f h = absurd h
  arguments fuel st (lexeme OpenIndex b s ∷ us) m k f h = absurd h
  arguments fuel st (lexeme (Infix o) b s ∷ us) m k f h = absurd (omega (arith, h, at_most_three o))
  arguments fuel st ts m k f h = absurd cc

  called : (st : List Frame) (b c : List ℕ) (s u : Span) (ts : List Lexeme) → length ts < n → Reads (Binary 3) ((Call, 0) ∷ st) ts
      → Reads Primary st (lexeme Name b s ∷ lexeme Open c u ∷ ts)
  called st b c s u ts k (read t mid d f h l) = elim (arguments (length mid) st mid (omega arith) (omega (arith, k, l)) f h) [
    | given more a e rest w g z ↦ read _ rest (call d w) g tt (omega (arith, l, z))
  ]

  calls : (st : List Frame) (b c : List ℕ) (s u : Span) (ts : List Lexeme) → length ts < n → shape A ((Call, 0) ∷ st) (kinds ts) ≡ Fine
      → Reads Primary st (lexeme Name b s ∷ lexeme Open c u ∷ ts)
  calls st b c s u [] k f = absurd cc
  calls st b c s u (lexeme Close d e ∷ rest) k f = read _ rest call_empty f tt (omega arith)
  calls st b c s u (lexeme a d e ∷ ts) k f = called st b c s u (lexeme a d e ∷ ts) k (inner ((Call, 0) ∷ st) (lexeme a d e ∷ ts) k f)

  primary : (st : List Frame) (ts : List Lexeme) → length ts ≤ n → NoBang (kinds ts) → shape E st (kinds ts) ≡ Fine → Reads Primary st ts
  primary st [] k h f = absurd cc
  primary st (lexeme (Keyword w) b s ∷ ts) k h f = read _ ts constant f tt (omega arith)
  primary st (lexeme Number b s ∷ ts) k h f = read _ ts number f tt (omega arith)
  primary st (lexeme Text b s ∷ ts) k h f = read _ ts text f tt (omega arith)
  primary st (lexeme Name b s ∷ []) k h f = read _ [] name (sym (uncalled st [] tt) ∙ f) tt (omega arith)
  primary st (lexeme Name b s ∷ lexeme Open c u ∷ ts) k h f = calls st b c s u ts (omega (arith, k)) f
  primary st (lexeme Name b s ∷ lexeme a c u ∷ ts) k h f = read _ (lexeme a c u ∷ ts) name f tt (omega arith)
  primary st (lexeme Open b s ∷ ts) k h f = grouped st b s ts (inner ((Group, 0) ∷ st) ts (omega (arith, k)) f)
  primary st (lexeme Bang b s ∷ ts) k h f = absurd h
  primary st (lexeme a b s ∷ ts) k h f = absurd cc

  walk : (fuel : ℕ) (st : List Frame) (ts : List Lexeme) → length ts ≤ fuel → length ts ≤ n → IsFineAfter st ts → ReadsSteps st ts
  walk fuel st [] m k f = walked [] [] arrived f tt (omega arith)
  walk zero st (t ∷ ts) m k f = absurd (omega (arith, m))
  walk (suc fuel) st (lexeme Dot c d ∷ lexeme Name b s ∷ ts) m k f =
      also (Property d b s) (λ ss rest w. to_property w) (omega arith) (walk fuel st ts (omega (arith, m)) (omega (arith, k)) f)
  walk (suc fuel) st (lexeme Dot c d ∷ lexeme (Keyword v) b s ∷ ts) m k f =
      also (Property d b s) (λ ss rest w. to_keyword w) (omega arith) (walk fuel st ts (omega (arith, m)) (omega (arith, k)) f)
  walk (suc fuel) st (lexeme Dot c d ∷ lexeme Star b s ∷ ts) m k f =
      also (All d s) (λ ss rest w. to_all w) (omega arith) (walk fuel st ts (omega (arith, m)) (omega (arith, k)) f)
  walk (suc fuel) st (lexeme Dot c d ∷ ts) m k f = absurd cc
  walk (suc fuel) st (lexeme OpenIndex c d ∷ lexeme Star b s ∷ lexeme CloseIndex a e ∷ ts) m k f =
      also (All d e) (λ ss rest w. to_each w) (omega arith) (walk fuel st ts (omega (arith, m)) (omega (arith, k)) f)
  walk (suc fuel) st (lexeme OpenIndex c d ∷ lexeme Star b s ∷ ts) m k f = absurd cc
  walk (suc fuel) st (lexeme OpenIndex c d ∷ []) m k f = absurd cc
  walk (suc fuel) st (lexeme OpenIndex c d ∷ lexeme a b s ∷ ts) m k f =
      indexed st c d (lexeme a b s ∷ ts) (λ us l g. walk fuel st us (omega (arith, m, l)) (omega (arith, k, l)) g) (inner ((IndexBracket, 0) ∷ st) (lexeme a b s ∷ ts) (omega (arith, k)) f)
  walk (suc fuel) st (lexeme a b s ∷ ts) m k f = walked [] _ arrived f tt (omega arith)

  with_steps : {st : List Frame} {ts mid : List Lexeme} {t : Tree} → Derives Primary ts t mid → length mid < length ts → ReadsSteps st mid → Reads Postfix st ts
  with_steps d l (walked [] rest arrived f h m) = read _ rest (bare d) f h l
  with_steps d l (walked (s ∷ ss) rest w f h m) = read _ rest (path d w) f h (omega (arith, l, m))

  positively : (st : List Frame) (ts : List Lexeme) → length ts ≤ n → NoBang (kinds ts) → shape E st (kinds ts) ≡ Fine → Reads Unary st ts
  positively st ts k h f = elim (primary st ts k h f) [
    | read t mid d g i l ↦ elim (with_steps d l (walk (length mid) st mid (omega arith) (omega (arith, k, l)) g)) [ read u rest e a z m ↦ read u rest (positive e) a z m ]
  ]

  unary : (st : List Frame) (ts : List Lexeme) → length ts ≤ n → shape E st (kinds ts) ≡ Fine → Reads Unary st ts
  unary st (lexeme Bang b s ∷ ts) k f = elim (unary st ts (omega (arith, k)) f) [ read t rest d g h l ↦ read _ rest (negated d) g h (omega (arith, l)) ]
  unary st [] k f = positively st [] k tt f
  unary st (lexeme a b s ∷ ts) k f = positively st (lexeme a b s ∷ ts) k tt f

module _ (l n : ℕ) (st : List Frame) (operand : (us : List Lexeme) → length us ≤ n → shape E st (kinds us) ≡ Fine → Reads (below l) st us) where
  operators : (fuel : ℕ) (ts : List Lexeme) → length ts ≤ fuel → length ts ≤ n → IsFineAfter st ts → EndsRule (below l) (kinds ts) → ReadsOperators l st ts
  operators zero (lexeme (Infix o) b s ∷ ts) m k f h = absurd (omega (arith, m))
  operators (suc fuel) (lexeme (Infix o) b s ∷ ts) m k f h = elim (cases_eq (level_of o) l) [
    | inr other ↦ operated [] _ no_more f (ends_below l (kinds (lexeme (Infix o) b s ∷ ts)) h other) (omega arith)
    | inl e ↦ elim (operand ts (omega (arith, k)) f) [
      | read t mid d g i x ↦ elim (operators fuel mid (omega (arith, m, x)) (omega (arith, k, x)) g i) [
        | operated os rest w a z y ↦ operated ((sign o s, t) ∷ os) rest (one_more e d w) a z (omega (arith, x, y))
      ]
    ]
  ]
  operators fuel [] m k f h = operated [] [] no_more f (ends_below l [] h tt) (omega arith)
  operators fuel (lexeme a b s ∷ ts) m k f h = operated [] _ no_more f (ends_below l (kinds (lexeme a b s ∷ ts)) h tt) (omega arith)

  with_operators : {ts mid : List Lexeme} {t : Tree} → Derives (below l) ts t mid → length mid < length ts → ReadsOperators l st mid → Reads (Binary l) st ts
  with_operators d x (operated [] rest no_more f h y) = read _ rest (single d) f h x
  with_operators d x (operated (o ∷ os) rest w f h y) = read _ rest (chain d w) f h (omega (arith, x, y))

  binary : (ts : List Lexeme) → length ts ≤ n → shape E st (kinds ts) ≡ Fine → Reads (Binary l) st ts
  binary ts k f = elim (operand ts k f) [
    | read t mid d g h x ↦ with_operators d x (operators (length mid) mid (omega arith) (omega (arith, k, x)) g h)
  ]

-- by induction on the length of the list
all : (n : ℕ) → Inner n
all zero st ts k f = absurd (omega (arith, k))
all (suc n) st ts k f = binary 3 n st (binary 2 n st (binary 1 n st (binary 0 n st (unary n (all n) st)))) ts (omega (arith, k)) f

-- If an operand was read and the table finds no fault in the rest, the rest is empty.
over : {ts : List Lexeme} → Reads (Binary 3) [] ts → (t : Tree) × Derives (Binary 3) ts t []
over (read t [] d f h l) = (t, d)
over (read t (lexeme Dot b s ∷ rest) d f h l) = absurd h
over (read t (lexeme OpenIndex b s ∷ rest) d f h l) = absurd h
over (read t (lexeme (Infix o) b s ∷ rest) d f h l) = absurd (omega (arith, h, at_most_three o))
over (read t rest d f h l) = absurd cc

pub some_tree : (ts : List Lexeme) → shape E [] (kinds ts) ≡ Fine → (t : Tree) × Derives (Binary 3) ts t []
some_tree ts f = over (all (suc (length ts)) [] ts (omega arith) f)
