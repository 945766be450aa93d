-- Negations, paths and chains of operators: the grammar's rules agree with the table.
use Rattle.std.proofs.Common.{◌≡◌, ℕ, zero, suc, ◌+◌, List, [], ◌∷◌, ◌++◌, refl, sym, ◌∙◌, arith, subst, Result, Ok, Err}
use Rattle.std.proofs.lemmas.Result.{err_from_is_err_and}
use Rattle.std.specs.Prelude.{◌<◌, length, map, MatchResult}
use Rattle.al_expr_grammar.specs.declared.ast.Operand.{Operand}
use Rattle.al_expr_grammar.specs.declared.ast.PathStep.{PathStep}
use Rattle.al_expr_grammar.specs.View.{operand_of, step_of}
use Rattle.std.specs.Result.{IsErrAnd}
use Rattle.al_expr_grammar.specs.declared.token.Operator.{Operator}
use Rattle.al_base.specs.declared.faults.Span.{Span}
use Rattle.al_expr_grammar.specs.declared.token.TokenKind.{TokenKind}
use Rattle.al_expr_grammar.specs.declared.token.TokenKind.TheVariants.{Bang, Infix}
use Rattle.al_expr_grammar.specs.declared.parser.ParseError.{ParseError}
use Rattle.al_expr_grammar.specs.Lexeme.{Lexeme, lexeme, kinds}
use Rattle.al_expr_grammar.specs.Tree.{Sign, sign, Tree, Negated, Path, Chain, StepTree, steps_of, operands_of}
use Rattle.al_expr_grammar.specs.Grammar.{Binary, Unary, Postfix, Primary, level_of, below, single, chain, positive, negated, bare, path}
use Rattle.al_expr_grammar.specs.Grammar.{Operators, no_more, one_more, Walks, arrived, to_property, to_keyword, to_all, to_each, to_index}
use Rattle.al_expr_grammar.specs.Table.{Verdict, E, O, Frame, outside, scan}
use Rattle.al_expr_grammar.specs.Parsed.{StartsAt, IsVerdict, EndsPath, EndsLevel, EndsRule, Parsed, Refused, PartOfChain, PartOfPath, StepRead, StepRefused, NoOperator}
use Rattle.al_expr_grammar.proofs.Rules.{not_deeper, likewise, settled}

-- a negation
pub not_read : (room inner : ℕ) (b : List ℕ) (s : Span) (ts rest : List Lexeme) (t : Tree) → inner + 1 ≡ room → Parsed Unary inner ts t rest
    → Parsed Unary room (lexeme Bang b s ∷ ts) (Negated s t) rest
not_read room inner b s ts rest t e p = record {
  derives = negated p.derives;
  goes = λ k st a h. not_deeper (k + outside st) _ _ (omega arith) ∙ p.goes (suc k) st tt (omega arith) ∙ settled (suc k) k st (kinds rest) p.stops;
  stops = p.stops;
  shorter = let short = p.shorter in omega arith;
}

pub not_refused : (room inner : ℕ) (b : List ℕ) (s : Span) (ts : List Lexeme) (e : ParseError) → inner + 1 ≡ room → Refused Unary inner ts e → Refused Unary room (lexeme Bang b s ∷ ts) e
not_refused room inner b s ts e one r = λ k st a h. likewise e _ _ (not_deeper (k + outside st) _ _ (omega arith)) (r (suc k) st tt (omega arith))

-- An operand without a negation is also a `Unary`.
pub positive_read : (room : ℕ) (ts rest : List Lexeme) (t : Tree) → Parsed Postfix room ts t rest → Parsed Unary room ts t rest
positive_read room ts rest t p = record { derives = positive p.derives; goes = p.goes; stops = p.stops; shorter = p.shorter }

-- paths
pub bare_read : (room : ℕ) (ts rest : List Lexeme) (t : Tree) → Parsed Primary room ts t rest → EndsPath (kinds rest) → Parsed Postfix room ts t rest
bare_read room ts rest t p ends = record { derives = bare p.derives; goes = p.goes; stops = ends; shorter = p.shorter }

pub path_read : (room : ℕ) (ts mid rest : List Lexeme) (t : Tree) (s : StepTree) (ss : List StepTree) → Parsed Primary room ts t mid
    → PartOfPath room mid (s ∷ ss) rest → EndsPath (kinds rest) → Parsed Postfix room ts (Path t (steps_of (s ∷ ss))) rest
path_read room ts mid rest t s ss p w ends = record {
  derives = path p.derives w.derives;
  goes = λ k st a h. p.goes k st a h ∙ w.goes k st h;
  stops = ends;
  shorter = let a = p.shorter in let b = w.shorter in omega arith;
}

pub walks_append : (ts mid : List Lexeme) (ss : List StepTree) (s : StepTree) (rest : List Lexeme) → Walks ts ss mid
    → ((more : List StepTree) (after : List Lexeme) → Walks rest more after → Walks mid (s ∷ more) after) → Walks ts (ss ++ s ∷ []) rest
walks_append ts mid ss s rest arrived one = one [] _ arrived
walks_append ts mid ss s rest (to_property w) one = to_property (walks_append _ _ _ s rest w one)
walks_append ts mid ss s rest (to_keyword w) one = to_keyword (walks_append _ _ _ s rest w one)
walks_append ts mid ss s rest (to_all w) one = to_all (walks_append _ _ _ s rest w one)
walks_append ts mid ss s rest (to_each w) one = to_each (walks_append _ _ _ s rest w one)
walks_append ts mid ss s rest (to_index d w) one = to_index d (walks_append _ _ _ s rest w one)

-- a path after its base, as far as it was read
pub record PathBegun (room : ℕ) (ts : List Lexeme) (t : Tree) (ss : List StepTree) (rest : List Lexeme) : Type 0 where
  pub mid : List Lexeme
  pub base : Parsed Primary room ts t mid
  pub steps : PartOfPath room mid ss rest

pub path_begins : (room : ℕ) (ts : List Lexeme) → PartOfPath room ts [] ts
path_begins room ts = record { derives = arrived; goes = λ k st h. refl; shorter = omega arith }

pub path_goes_on : (room : ℕ) (ts mid rest : List Lexeme) (ss : List StepTree) (s : StepTree) → PartOfPath room ts ss mid → StepRead room mid s rest → PartOfPath room ts (ss ++ s ∷ []) rest
path_goes_on room ts mid rest ss s w r = record {
  derives = walks_append ts mid ss s rest w.derives r.derives;
  goes = λ k st h. w.goes k st h ∙ r.goes k st h;
  shorter = let a = w.shorter in let b = r.shorter in omega arith;
}

-- the path if some steps were read
pub with_steps : (room : ℕ) (ts mid rest : List Lexeme) (t : Tree) (xs : List PathStep) → 0 < length xs → Parsed Primary room ts t mid
    → PartOfPath room mid (map step_of xs) rest → EndsPath (kinds rest) → Parsed Postfix room ts (Path t (steps_of (map step_of xs))) rest
with_steps room ts mid rest t [] some p w ends = absurd (omega (arith, some))
with_steps room ts mid rest t (x ∷ xs) some p w ends = path_read room ts mid rest t (step_of x) (map step_of xs) p w ends

-- A step of the path is refused.
pub path_refused : (room : ℕ) (ts mid left : List Lexeme) (t : Tree) (ss : List StepTree) (e : ParseError) → Parsed Primary room ts t mid
    → PartOfPath room mid ss left → StepRefused room left e → Refused Postfix room ts e
path_refused room ts mid left t ss e p w r = λ k st a h. likewise e _ _ (p.goes k st tt h ∙ w.goes k st h) (r k st h)

-- chains of operators
no_tighter : (ts : List TokenKind) → EndsPath ts → NoOperator 0 ts → EndsLevel 0 ts
no_tighter [] h n = tt
no_tighter (Infix o ∷ ts) h n = omega (arith, n)
no_tighter (t ∷ ts) h n = h

looser : (l : ℕ) (ts : List TokenKind) → EndsLevel l ts → NoOperator (suc l) ts → EndsLevel (suc l) ts
looser l [] h n = tt
looser l (Infix o ∷ ts) h n = omega (arith, h, n)
looser l (t ∷ ts) h n = h

pub ends_below : (l : ℕ) (ts : List TokenKind) → EndsRule (below l) ts → NoOperator l ts → EndsLevel l ts
ends_below zero ts s n = no_tighter ts s n
ends_below (suc l) ts s n = looser l ts s n

pub starts_below : (l : ℕ) → StartsAt (below l) 0
starts_below zero = tt
starts_below (suc l) = refl

-- at the start of a chain no negation is open
from_start : (l room : ℕ) (ts : List Lexeme) (P : ℕ → List Frame → Verdict → Type 0) → ((st : List Frame) → outside st + room ≡ 50 → P 0 st (scan E 0 st (kinds ts)))
    → (k : ℕ) (st : List Frame) → StartsAt (Binary l) k → k + outside st + room ≡ 50 → P k st (scan E k st (kinds ts))
from_start l room ts P g k st a h = subst (λ j. j + outside st + room ≡ 50 → P j st (scan E j st (kinds ts))) (sym a) (λ f. g st (omega arith)) h

pub single_read : (l room : ℕ) (ts rest : List Lexeme) (t : Tree) → Parsed (below l) room ts t rest → NoOperator l (kinds rest) → Parsed (Binary l) room ts t rest
single_read l room ts rest t p never = record {
  derives = single p.derives;
  goes = from_start l room ts (λ k st v. v ≡ scan O k st (kinds rest)) (λ st f. p.goes 0 st (starts_below l) (omega arith));
  stops = ends_below l (kinds rest) p.stops never;
  shorter = p.shorter;
}

pub chain_read : (l room : ℕ) (ts mid rest : List Lexeme) (t : Tree) (o : Sign × Tree) (os : List (Sign × Tree))
    → Parsed (below l) room ts t mid → PartOfChain l room mid (o ∷ os) rest → EndsRule (below l) (kinds rest) → NoOperator l (kinds rest)
    → Parsed (Binary l) room ts (Chain t (operands_of (o ∷ os))) rest
chain_read l room ts mid rest t o os p c s never = record {
  derives = chain p.derives c.derives;
  goes = from_start l room ts (λ k st v. v ≡ scan O k st (kinds rest)) (λ st f. p.goes 0 st (starts_below l) (omega arith) ∙ c.goes st f);
  stops = ends_below l (kinds rest) s never;
  shorter = let a = p.shorter in let b = c.shorter in omega arith;
}

pub operators_append : (l : ℕ) (ts mid : List Lexeme) (os : List (Sign × Tree)) (o : Sign × Tree) (rest : List Lexeme)
    → Operators l ts os mid → Operators l mid (o ∷ []) rest → Operators l ts (os ++ o ∷ []) rest
operators_append l ts mid os o rest no_more one = one
operators_append l ts mid os o rest (one_more e d w) one = one_more e d (operators_append l _ mid _ o rest w one)

pub chain_begins : (l room : ℕ) (ts : List Lexeme) → PartOfChain l room ts [] ts
chain_begins l room ts = record { derives = no_more; goes = λ st h. refl; shorter = omega arith }

pub chain_goes_on : (l room : ℕ) (ts inner rest : List Lexeme) (os : List (Sign × Tree)) (o : Operator) (b : List ℕ) (s : Span) (t : Tree)
    → PartOfChain l room ts os (lexeme (Infix o) b s ∷ inner) → level_of o ≡ l → Parsed (below l) room inner t rest
    → PartOfChain l room ts (os ++ (sign o s, t) ∷ []) rest
chain_goes_on l room ts inner rest os o b s t c lv p = record {
  derives = operators_append l ts (lexeme (Infix o) b s ∷ inner) os (sign o s, t) rest c.derives (one_more lv p.derives no_more);
  goes = λ st h. c.goes st h ∙ p.goes 0 st (starts_below l) (omega arith);
  shorter = let a = c.shorter in let d = p.shorter in omega arith;
}

-- the chain if further operands were read
pub with_operands : (l room : ℕ) (ts mid rest : List Lexeme) (t : Tree) (xs : List Operand) → 0 < length xs → Parsed (below l) room ts t mid
    → PartOfChain l room mid (map operand_of xs) rest → EndsRule (below l) (kinds rest) → NoOperator l (kinds rest)
    → Parsed (Binary l) room ts (Chain t (operands_of (map operand_of xs))) rest
with_operands l room ts mid rest t [] some p c s never = absurd (omega (arith, some))
with_operands l room ts mid rest t (x ∷ xs) some p c s never = chain_read l room ts mid rest t (operand_of x) (map operand_of xs) p c s never

pub some_element : {X : Type 0} (xs : List X) (x : X) → 0 < length (xs ++ x ∷ [])
some_element [] x = omega arith
some_element (y ∷ ys) x = omega arith

-- an operand of the next level
pub at_next_level : (i room : ℕ) (ts rest : List Lexeme) (t : Tree) → Parsed (Binary i) room ts t rest → Parsed (below (i + 1)) room ts t rest
at_next_level i room ts rest t p =
    let next : suc i ≡ i + 1 = omega arith in subst (λ k. Parsed (below k) room ts t rest) next p

pub chain_made : (i j room : ℕ) (ts mid left rest : List Lexeme) (t u : Tree) → mid ≡ left → j ≡ i
    → ((all : List Lexeme) → Parsed (below j) room all t left → Parsed (Binary j) room all u rest) → Parsed (below i) room ts t mid → Parsed (Binary i) room ts u rest
chain_made i j room ts mid left rest t u same level make p =
    let q = subst (λ m. Parsed (below i) room ts t m) same p in
    subst (λ k. Parsed (Binary k) room ts u rest) level (make ts (subst (λ k. Parsed (below k) room ts t left) (sym level) q))

-- What is refused at a tighter level is refused.
pub refused_below : (i l room : ℕ) (ts : List Lexeme) (e : ParseError) → i < l → Refused (Binary i) room ts e → Refused (below l) room ts e
refused_below i zero room ts e lt r = absurd (omega (arith, lt))
refused_below i (suc l) room ts e lt r = r

pub unary_refused : (l room : ℕ) (ts : List Lexeme) (e : ParseError) → Refused Unary room ts e → Refused (below l) room ts e
unary_refused zero room ts e r = r
unary_refused (suc l) room ts e r = λ k st a h. r k st tt h

-- A later operand of a chain is refused.
pub later_refused : (l room : ℕ) (ts mid inner : List Lexeme) (t : Tree) (os : List (Sign × Tree)) (o : Operator) (b : List ℕ) (s : Span)
    (e : ParseError) → Parsed (below l) room ts t mid → PartOfChain l room mid os (lexeme (Infix o) b s ∷ inner)
    → Refused (below l) room inner e → Refused (Binary l) room ts e
later_refused l room ts mid inner t os o b s e p c r = from_start l room ts (λ k st v. IsVerdict e v)
    (λ st f. likewise e _ _ (p.goes 0 st (starts_below l) (omega arith) ∙ c.goes st f) (r 0 st (starts_below l) (omega arith)))

pub either_way : {A F : Type 0} (P P' : A → Type 0) (Q Q' : F → Type 0) (r : Result A F) → ((a : A) → P a → P' a) → ((e : F) → Q e → Q' e) → MatchResult r P Q → MatchResult r P' Q'
either_way P P' Q Q' (Ok a) f g h = f a h
either_way P P' Q Q' (Err e) f g h = g e h

-- the result when `?` returns an error
pub refusal : {A F : Type 0} (P : A → Type 0) (Q : F → Type 0) (r : Result A F) (e : F) → IsErrAnd r (λ y. y ≡ e) → Q e → MatchResult r P Q
refusal P Q r e h q = let p = err_from_is_err_and r h in rw (p.1, p.2) q
