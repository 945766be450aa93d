-- Chunks, tokens, trees and faults are within the text or content that they were found in.
use Rattle.std.proofs.Common.{◌≡◌, ◌<◌, ◌≤◌, ◌+◌, ◌-◌, ℕ, zero, suc, List, [], ◌∷◌, length, length-drop, drop, refl, ◌∙◌, subst, arith, Bool, true, false, cond, nat_lt, not, Option, Some, None}
use Rattle.std.specs.List.{AllByRecursion}
use Rattle.std.specs.Option.{option_map, option_to_list}
use Rattle.std.proofs.lemmas.Bool.{cond_both}
use Rattle.std.proofs.lemmas.Bool.Decides.{nat_tests}
use Rattle.std.proofs.lemmas.List.Sums.{prefix_len-le-length}
use Rattle.std.specs.Option.{option_or}
use Rattle.al_base.specs.Positions.{begins_char}
use Rattle.al_base.specs.Spans.{LiesIn, span}
use Rattle.al_base.specs.declared.codes.ExpressionCode.TheVariants as code
use Rattle.al_base.specs.declared.faults.Fault.{Fault}
use Rattle.al_base.specs.declared.faults.Span.{Span}
use Rattle.al_expr_grammar.specs.declared.lexer.Read.{Read}
use Rattle.al_expr_grammar.specs.declared.lexer.Read.TheVariants.{Blank, Token, BadCharacter, OpenText}
use Rattle.al_expr_grammar.specs.declared.token.TokenKind.{TokenKind}
use Rattle.al_expr_grammar.specs.declared.token.TokenKind.TheVariants.{Close, CloseIndex}
use Rattle.al_expr_grammar.specs.Chunks.{Chunked, before_opening, chunks_of, chunks_within, closing_position, is_outside_quotes, with_content, with_opening}
use Rattle.al_expr_grammar.proofs.Chunking.{closing_fits, opening_fits}
use Rattle.al_expr_grammar.specs.Extents.{across, extent, with_operands, with_steps}
use Rattle.al_expr_grammar.specs.Grammar.{Nonterminal, Derives, single, chain, positive, negated, bare, path}
use Rattle.al_expr_grammar.specs.Grammar.{call_empty, call, group, Operators, no_more, one_more, Walks, arrived, to_property, to_keyword, to_all}
use Rattle.al_expr_grammar.specs.Grammar.{to_each, to_index, Lists, listed, and_next}
use Rattle.al_expr_grammar.specs.Inside.{AllLie}
use Rattle.al_expr_grammar.specs.Lexeme.{Lexeme, lexeme, kinds}
use Rattle.al_expr_grammar.specs.Refusal.{expression_fault, fault_at, fault_of_content, fault_of_lexed, fault_of_tokens, fault_of_verdict, open_text}
use Rattle.al_expr_grammar.specs.Table.{Verdict, Fine, Early, Unexpected, TooDeep, verdict_of}
use Rattle.al_expr_grammar.specs.Tokens.{Lexed, AllRead, Bad, Unclosed}
use Rattle.al_expr_grammar.specs.Tokens.{add_to, is_quote, last_quote, read}
use Rattle.al_expr_grammar.specs.Tokens.{then_token, tokens_of, tokens_within, with_first}
use Rattle.al_expr_grammar.specs.Tree as tree
use Rattle.al_expr_grammar.specs.Tree.{Sign, sign, Tree, Constant, Named, Call, Group, Negated, Path, Chain, PathSteps, NoStep, PropertyThen}
use Rattle.al_expr_grammar.specs.Tree.{AllThen, IndexThen, StepTree, Operands, NoOperand, OperandThen, Arguments, NoArgument, ArgumentThen}
use Rattle.al_expr_grammar.specs.Tree.{steps_of, operands_of, arguments_of}
use Rattle.al_expr_grammar.proofs.Fitting.{Fits}
use Rattle.al_expr_grammar.proofs.Reading.{read_fits}

-- ---- where a tree begins

abbrev pub start_of : Tree → ℕ
start_of (Constant w s) = s.start
start_of (tree.Number b s) = s.start
start_of (tree.Text b s) = s.start
start_of (Named b s) = s.start
start_of (Call b s as' e) = s.start
start_of (Group t s e) = s.start
start_of (Negated s t) = s.start
start_of (Path t ss) = start_of t
start_of (Chain t os) = start_of t

steps_start : (ss : PathSteps) (x : Span) → (with_steps x ss).start ≡ x.start
steps_start NoStep x = refl
steps_start (PropertyThen d b s ss) x = steps_start ss (across x s)
steps_start (AllThen a b ss) x = steps_start ss (across x b)
steps_start (IndexThen a t b ss) x = steps_start ss (across x b)

operands_start : (os : Operands) (x : Span) → (with_operands x os).start ≡ x.start
operands_start NoOperand x = refl
operands_start (OperandThen o t os) x = operands_start os (across x (extent t))

extent_start : (t : Tree) → (extent t).start ≡ start_of t
extent_start (Path t ss) = steps_start ss (extent t) ∙ extent_start t
extent_start (Chain t os) = operands_start os (extent t) ∙ extent_start t
extent_start _ = refl

-- ---- tokens are within their content, one after another

module _ (size : ℕ) where
  abbrev pub TokensLie : ℕ → List Lexeme → Type 0
  TokensLie low [] = Unit {0}
  TokensLie low (lexeme k b s ∷ ts) = (low ≤ s.start) × LiesIn size s × TokensLie s.start ts

  abbrev LexedLies : ℕ → Lexed → Type 0
  LexedLies low (AllRead ts) = TokensLie low ts
  LexedLies low (Bad s) = LiesIn size s
  LexedLies low Unclosed = Unit {0}

  pub weaker : (low high : ℕ) (ts : List Lexeme) → low ≤ high → TokensLie high ts → TokensLie low ts
  weaker low high [] h l = tt
  weaker low high (lexeme k b s ∷ ts) h l = let there = l.0 in (omega (arith, h, there), l.1, l.2)

  weaker_lexed : (low high : ℕ) (r : Lexed) → low ≤ high → LexedLies high r → LexedLies low r
  weaker_lexed low high (AllRead ts) h l = weaker low high ts h l
  weaker_lexed low high (Bad s) h l = l
  weaker_lexed low high Unclosed h l = tt

  then_lies : (k : TokenKind) (b : List ℕ) (s : Span) (r : Lexed) → LiesIn size s → LexedLies s.start r → LexedLies s.start (then_token (lexeme k b s) r)
  then_lies k b s (AllRead ts) i l = (omega arith, i, l)
  then_lies k b s (Bad t) i l = l
  then_lies k b s Unclosed i l = tt

  first_lies : (n : ℕ) (r : Read) (at b : ℕ) (bs : List ℕ) → at + length (b ∷ bs) ≤ size → Fits (b ∷ bs) r →
      ((from : ℕ) (rest : List ℕ) → from + length rest ≤ size → LexedLies from (tokens_within n from rest)) → LexedLies at (with_first (tokens_within n) r at (b ∷ bs))
  first_lies n Blank at b bs room fits ih = weaker_lexed at (at + 1) (tokens_within n (at + 1) bs) (omega arith) (ih (at + 1) bs (omega (arith, room)))
  first_lies n BadCharacter at b bs room fits ih =
      let within = prefix_len-le-length (λ b. not (begins_char b)) bs in
      record { ordered = omega arith; inside = omega (arith, within, room) }
  first_lies n OpenText at b bs room fits ih = tt
  first_lies n (Token k m) at b bs room fits ih =
      let rest = ih (at + m) (drop m (b ∷ bs)) (omega (arith, room, fits.1, length-drop m (b ∷ bs))) in
      then_lies k _ (span at (at + m)) _ (record { ordered = omega arith; inside = omega (arith, room, fits.1) }) (weaker_lexed at (at + m) _ (omega arith) rest)

  lexed_lies : (n at : ℕ) (bs : List ℕ) → at + length bs ≤ size → LexedLies at (tokens_within n at bs)
  lexed_lies zero at bs room = tt
  lexed_lies (suc n) at [] room = tt
  lexed_lies (suc n) at (b ∷ bs) room = first_lies n (read (b ∷ bs)) at b bs room (read_fits (b ∷ bs)) (lexed_lies n)

  -- ---- trees are within their content, and no part of a tree is before its start

  abbrev mutual
    pub TreeLies : ℕ → Tree → Type 0
    TreeLies low (Constant w s) = (low ≤ s.start) × LiesIn size s
    TreeLies low (tree.Number b s) = (low ≤ s.start) × LiesIn size s
    TreeLies low (tree.Text b s) = (low ≤ s.start) × LiesIn size s
    TreeLies low (Named b s) = (low ≤ s.start) × LiesIn size s
    TreeLies low (Call b s as' e) = (low ≤ s.start) × LiesIn size s × ArgumentsLie s.start as' × (s.start ≤ e.start) × LiesIn size e
    TreeLies low (Group t s e) = (low ≤ s.start) × LiesIn size s × TreeLies s.start t × (s.start ≤ e.start) × LiesIn size e
    TreeLies low (Negated s t) = (low ≤ s.start) × LiesIn size s × TreeLies s.start t
    TreeLies low (Path t ss) = TreeLies low t × StepsLie (start_of t) ss
    TreeLies low (Chain t os) = TreeLies low t × OperandsLie (start_of t) os

    pub StepsLie : ℕ → PathSteps → Type 0
    StepsLie low NoStep = Unit {0}
    StepsLie low (PropertyThen d b s ss) = (low ≤ d.start) × LiesIn size d × (d.start ≤ s.start) × LiesIn size s × StepsLie low ss
    StepsLie low (AllThen a b ss) = (low ≤ a.start) × LiesIn size a × (a.start ≤ b.start) × LiesIn size b × StepsLie low ss
    StepsLie low (IndexThen a t b ss) = (low ≤ a.start) × LiesIn size a × TreeLies low t × (a.start ≤ b.start) × LiesIn size b × StepsLie low ss

    pub OperandsLie : ℕ → Operands → Type 0
    OperandsLie low NoOperand = Unit {0}
    OperandsLie low (OperandThen (sign o s) t os) = LiesIn size s × TreeLies low t × OperandsLie low os

    pub ArgumentsLie : ℕ → Arguments → Type 0
    ArgumentsLie low NoArgument = Unit {0}
    ArgumentsLie low (ArgumentThen t ts) = TreeLies low t × ArgumentsLie low ts

  pub record Extends (low start end : ℕ) : Type 0 where
    pub from : low ≤ start
    pub ordered : start ≤ end
    pub inside : end ≤ size

  at_span : (low : ℕ) (s : Span) → (low ≤ s.start) × LiesIn size s → Extends low s.start s.end
  at_span low s l = record { from = l.0; ordered = (l.1).ordered; inside = (l.1).inside }

  up_to : (low : ℕ) (s e : Span) → low ≤ s.start → s.start ≤ e.start → LiesIn size e → Extends low s.start e.end
  up_to low s e from between l = let o : e.start ≤ e.end = l.ordered in record { from = from; ordered = omega (arith, between, o); inside = l.inside }

  extended : {low start end : ℕ} → low ≤ start → (start ≤ end) × (end ≤ size) → Extends low start end
  extended from ends = record { from = from; ordered = ends.0; inside = ends.1 }

  mutual
    pub tree_extent : (t : Tree) (low : ℕ) → TreeLies low t → Extends low (start_of t) (extent t).end
    tree_extent (Constant w s) low l = at_span low s l
    tree_extent (tree.Number b s) low l = at_span low s l
    tree_extent (tree.Text b s) low l = at_span low s l
    tree_extent (Named b s) low l = at_span low s l
    tree_extent (Call b s as' e) low l = up_to low s e l.0 l.3 l.4
    tree_extent (Group t s e) low l = up_to low s e l.0 l.3 l.4
    tree_extent (Negated s t) low l = let x = tree_extent t s.start l.2 in let a = x.from in let b = x.ordered in record { from = l.0; ordered = omega (arith, a, b); inside = x.inside }
    tree_extent (Path t ss) low l = let x = tree_extent t low l.0 in extended x.from (steps_extent ss (start_of t) (extent t) x.ordered x.inside l.1)
    tree_extent (Chain t os) low l = let x = tree_extent t low l.0 in extended x.from (operands_extent os (start_of t) (extent t) x.ordered x.inside l.1)

    steps_extent : (ss : PathSteps) (low : ℕ) (x : Span) → low ≤ x.end → x.end ≤ size → StepsLie low ss → (low ≤ (with_steps x ss).end) × ((with_steps x ss).end ≤ size)
    steps_extent NoStep low x h i l = (h, i)
    steps_extent (PropertyThen d b s ss) low x h i l =
        let a = l.0 in let c = l.2 in let e : s.start ≤ s.end = (l.3).ordered in steps_extent ss low (across x s) (omega (arith, a, c, e)) (l.3).inside l.4
    steps_extent (AllThen a b ss) low x h i l =
        let f = l.0 in let c = l.2 in let e : b.start ≤ b.end = (l.3).ordered in steps_extent ss low (across x b) (omega (arith, f, c, e)) (l.3).inside l.4
    steps_extent (IndexThen a t b ss) low x h i l =
        let f = l.0 in let c = l.3 in let e : b.start ≤ b.end = (l.4).ordered in steps_extent ss low (across x b) (omega (arith, f, c, e)) (l.4).inside l.5

    operands_extent : (os : Operands) (low : ℕ) (x : Span) → low ≤ x.end → x.end ≤ size → OperandsLie low os
        → (low ≤ (with_operands x os).end) × ((with_operands x os).end ≤ size)
    operands_extent NoOperand low x h i l = (h, i)
    operands_extent (OperandThen (sign o s) t os) low x h i l =
        let y = tree_extent t low l.1 in let a = y.from in let b = y.ordered in operands_extent os low (across x (extent t)) (omega (arith, a, b)) y.inside l.2

  -- the tokens that remain aren't before a tree, so not before what it is in
  from_low : (low : ℕ) (t : Tree) (rest : List Lexeme) → TreeLies low t × TokensLie (start_of t) rest → TreeLies low t × TokensLie low rest
  from_low low t rest x = let there = tree_extent t low x.0 in (x.0, weaker low (start_of t) rest there.from x.1)

  -- A tree of tokens is within the content, and the tokens that remain aren't before its start.
  mutual
    pub derives_lie : {p : Nonterminal} {ts rest : List Lexeme} {t : Tree} → Derives p ts t rest → (low : ℕ) → TokensLie low ts → TreeLies low t × TokensLie (start_of t) rest
    derives_lie (single d) low l = derives_lie d low l
    derives_lie (chain d w) low l = let x = derives_lie d low l in let y = operators_lie w _ x.1 in ((x.0, y.0), y.1)
    derives_lie (positive d) low l = derives_lie d low l
    derives_lie (negated {s = s} {rest = rest} {t = t} d) low l = let x = from_low s.start t rest (derives_lie d s.start l.2) in ((l.0, l.1, x.0), x.1)
    derives_lie (bare d) low l = derives_lie d low l
    derives_lie (path d w) low l = let x = derives_lie d low l in let y = walks_lie w _ x.1 in ((x.0, y.0), y.1)
    derives_lie (call_empty {s = s} {u = u} {e = e} {rest = rest}) low l =
        let o = l.2 in
        let c = o.2 in
        let before : s.start ≤ e.start = omega (arith, o.0, c.0) in
        ((l.0, l.1, tt, before, c.1), weaker s.start e.start rest before c.2)
    derives_lie (call {s = s} {u = u} {e = e} {ts = ts} {mid = mid} {rest = rest} {t = t} d w) low l =
        let o = l.2 in
        let x = from_low s.start t mid (derives_lie d s.start (weaker s.start u.start ts o.0 o.2)) in
        let y = lists_lie w s.start x.1 in
        let c = y.1 in
        ((l.0, l.1, (x.0, y.0), c.0, c.1), weaker s.start e.start rest c.0 c.2)
    derives_lie (group {c = b} {s = s} {e = e} {rest = rest} {t = t} d) low l =
        let x = from_low s.start t (lexeme Close b e ∷ rest) (derives_lie d s.start l.2) in
        let c = x.1 in
        ((l.0, l.1, x.0, c.0, c.1), weaker s.start e.start rest c.0 c.2)
    derives_lie _ low l = ((l.0, l.1), l.2)

    operators_lie : {n : ℕ} {ts rest : List Lexeme} {os : List (Sign × Tree)} → Operators n ts os rest → (low : ℕ) → TokensLie low ts → OperandsLie low (operands_of os) × TokensLie low rest
    operators_lie no_more low l = (tt, l)
    operators_lie (one_more {s = s} {ts = ts} {mid = mid} {t = t} e d w) low l =
        let x = from_low low t mid (derives_lie d low (weaker low s.start ts l.0 l.2)) in
        let y = operators_lie w low x.1 in
        ((l.1, x.0, y.0), y.1)

    walks_lie : {ts rest : List Lexeme} {ss : List StepTree} → Walks ts ss rest → (low : ℕ) → TokensLie low ts → StepsLie low (steps_of ss) × TokensLie low rest
    walks_lie arrived low l = (tt, l)
    walks_lie (to_property {s = s} {d = d} {ts = ts} w) low l =
        let n = l.2 in let y = walks_lie w low (weaker low s.start ts (omega (arith, l.0, n.0)) n.2) in ((l.0, l.1, n.0, n.1, y.0), y.1)
    walks_lie (to_keyword {s = s} {d = d} {ts = ts} w) low l =
        let n = l.2 in let y = walks_lie w low (weaker low s.start ts (omega (arith, l.0, n.0)) n.2) in ((l.0, l.1, n.0, n.1, y.0), y.1)
    walks_lie (to_all {s = s} {d = d} {ts = ts} w) low l =
        let n = l.2 in let y = walks_lie w low (weaker low s.start ts (omega (arith, l.0, n.0)) n.2) in ((l.0, l.1, n.0, n.1, y.0), y.1)
    walks_lie (to_each {s = s} {d = d} {e = e} {ts = ts} w) low l =
        let n = l.2 in
        let m = n.2 in
        let y = walks_lie w low (weaker low e.start ts (omega (arith, l.0, n.0, m.0)) m.2) in
        ((l.0, l.1, omega (arith, n.0, m.0), m.1, y.0), y.1)
    walks_lie (to_index {c = b} {s = s} {e = e} {ts = ts} {mid = mid} {t = t} d w) low l =
        let x = from_low s.start t (lexeme CloseIndex b e ∷ mid) (derives_lie d s.start l.2) in
        let c = x.1 in
        let y = walks_lie w low (weaker low e.start mid (omega (arith, l.0, c.0)) c.2) in
        ((l.0, l.1, (derives_lie d low (weaker low s.start ts l.0 l.2)).0, c.0, c.1, y.0), y.1)

    lists_lie : {ts rest : List Lexeme} {more : List Tree} → Lists ts more rest → (low : ℕ) → TokensLie low ts → ArgumentsLie low (arguments_of more) × TokensLie low rest
    lists_lie listed low l = (tt, l)
    lists_lie (and_next {s = s} {ts = ts} {mid = mid} {t = t} d w) low l =
        let x = from_low low t mid (derives_lie d low (weaker low s.start ts l.0 l.2)) in
        let y = lists_lie w low x.1 in
        ((x.0, y.0), y.1)

  -- ---- the fault of a content

  at_token : (make : Span → List ℕ → Fault) → ((s : Span) (b : List ℕ) → LiesIn size s → LiesIn size (make s b).span) →
      (n low : ℕ) (ts : List Lexeme) → TokensLie low ts → AllLie size (option_to_list (fault_at make (drop n ts)))
  at_token make keeps zero low [] l = tt
  at_token make keeps (suc n) low [] l = tt
  at_token make keeps zero low (lexeme k b s ∷ ts) l = (keeps s b l.1, tt)
  at_token make keeps (suc n) low (lexeme k b s ∷ ts) l = at_token make keeps n s.start ts l.2

  verdict_lies : (ts : List Lexeme) (v : Verdict) → TokensLie 0 ts → AllLie size (option_to_list (fault_of_verdict size ts v))
  verdict_lies ts Fine l = tt
  verdict_lies ts Early l = (record { ordered = omega arith; inside = omega arith }, tt)
  verdict_lies ts (Unexpected left) l = at_token _ (λ s b i. i) (length ts - left) 0 ts l
  verdict_lies ts (TooDeep left) l = at_token _ (λ s b i. i) (length ts - left) 0 ts l

-- ---- the last quote

abbrev IsBelow : ℕ → Option ℕ → Type 0
IsBelow n None = Unit {0}
IsBelow n (Some q) = q < n

either_below : (n : ℕ) (a b : Option ℕ) → IsBelow n a → IsBelow n b → IsBelow n (option_or a b)
either_below n None b h i = i
either_below n (Some q) b h i = h

here_below : (t : Bool) (n at : ℕ) → at < n → IsBelow n (cond t (Some at) None)
here_below true n at h = h
here_below false n at h = tt

further_below : (n : ℕ) (o : Option ℕ) → IsBelow n o → IsBelow (suc n) (option_map suc o)
further_below n None h = tt
further_below n (Some q) h = omega (arith, h)

last_below : (bs : List ℕ) → IsBelow (length bs) (last_quote bs)
last_below [] = tt
last_below (b ∷ bs) =
    either_below (suc (length bs)) (option_map suc (last_quote bs)) (cond (is_quote b) (Some 0) None)
    (further_below (length bs) (last_quote bs) (last_below bs)) (here_below (is_quote b) (suc (length bs)) 0 (omega arith))

quote_lies : (n : ℕ) (o : Option ℕ) → IsBelow n o → AllLie n (option_to_list (open_text o))
quote_lies n None h = tt
quote_lies n (Some q) h = (record { ordered = omega arith; inside = omega (arith, h) }, tt)

unclosed_lies : (content : List ℕ) → AllLie (length content) (option_to_list (open_text (last_quote content)))
unclosed_lies content = quote_lies (length content) (last_quote content) (last_below content)

lexed_fault : (content : List ℕ) (r : Lexed) → LexedLies (length content) 0 r → AllLie (length content) (option_to_list (fault_of_lexed content r))
lexed_fault content (AllRead ts) l = tt
lexed_fault content (Bad s) l = (l, tt)
lexed_fault content Unclosed l = unclosed_lies content

tokens_fault : (content : List ℕ) (r : Lexed) → LexedLies (length content) 0 r → AllLie (length content) (option_to_list (fault_of_tokens content r))
tokens_fault content (AllRead ts) l = verdict_lies (length content) ts (verdict_of (kinds ts)) l
tokens_fault content (Bad s) l = (l, tt)
tokens_fault content Unclosed l = unclosed_lies content

content_lexed : (content : List ℕ) → LexedLies (length content) 0 (tokens_of content)
content_lexed content = lexed_lies (length content) (length content) 0 content (omega arith)

pub token_fault_lies : (content : List ℕ) → AllLie (length content) (option_to_list (fault_of_lexed content (tokens_of content)))
token_fault_lies content = lexed_fault content (tokens_of content) (content_lexed content)

some_byte : (n : ℕ) → nat_lt 21000 n ≡ true → LiesIn n (span 0 1)
some_byte n h = let more : 21000 < n = grind (arith, nat_tests) in record { ordered = omega arith; inside = omega (arith, more) }

pub content_fault_lies : (content : List ℕ) → AllLie (length content) (option_to_list (fault_of_content content))
content_fault_lies content =
    cond_both (nat_lt 21000 (length content)) _ (fault_of_tokens content (tokens_of content)) (λ o. AllLie (length content) (option_to_list o))
    (λ e. (some_byte (length content) e, tt)) (λ e. tokens_fault content (tokens_of content) (content_lexed content))

-- the tokens of a content, if all are read
pub tokens_lie : (content : List ℕ) (ts : List Lexeme) → tokens_of content ≡ AllRead ts → TokensLie (length content) 0 ts
tokens_lie content ts e = subst (LexedLies (length content) 0) e (content_lexed content)

-- a tree that the grammar derives from a content's first tokens
pub tree_lies : {p : Nonterminal} {rest : List Lexeme} (content : List ℕ) (ts : List Lexeme) (t : Tree) → tokens_of content ≡ AllRead ts → Derives p ts t rest → TreeLies (length content) 0 t
tree_lies content ts t e d = (derives_lie (length content) d 0 (tokens_lie content ts e)).0

pub whole_lies : (size low : ℕ) (t : Tree) → TreeLies size low t → LiesIn size (extent t)
whole_lies size low t l =
    let x = tree_extent size t low l in
    let ordered = x.ordered in
    let start = extent_start t in
    record { ordered = omega (arith, ordered, start); inside = x.inside }

pub extent_lies : (size : ℕ) (t : Tree) → TreeLies size 0 t → LiesIn size (extent t)
extent_lies size t l = whole_lies size 0 t l

-- ---- chunks

module _ (size : ℕ) where
  abbrev ChunkedLies : Chunked → Type 0
  ChunkedLies c = AllByRecursion (λ (s : Span). LiesIn size s) c.chunks × AllLie size (option_to_list c.fault)

  open_lies : (outside : Bool) (start len : ℕ) (quote : Option ℕ) → start + len ≤ size → IsBelow len quote
      → AllLie size (option_to_list (cond outside (Some (expression_fault code.UnclosedChunk (span (start - 3) start) [])) (open_text (add_to start quote))))
  open_lies true start len quote room h = (record { ordered = omega arith; inside = omega (arith, room) }, tt)
  open_lies false start len None room h = tt
  open_lies false start len (Some q) room h = (record { ordered = omega arith; inside = omega (arith, room, h) }, tt)

  content_lies : (n start : ℕ) (bs : List ℕ) (o : Option ℕ) → start + length bs ≤ size → closing_position bs ≡ o
      → ((at : ℕ) (rest : List ℕ) → at + length rest ≤ size → ChunkedLies (chunks_within n at rest)) → ChunkedLies (with_content (chunks_within n) start bs o)
  content_lies n start bs None room e ih = (tt, open_lies (is_outside_quotes bs) start (length bs) (last_quote bs) room (last_below bs))
  content_lies n start bs (Some len) room e ih =
      let fits = closing_fits bs len e in
      let rest = ih (start + len + 2) (drop (len + 2) bs) (omega (arith, room, fits, length-drop (len + 2) bs)) in
      ((record { ordered = omega arith; inside = omega (arith, room, fits) }, rest.0), rest.1)

  opening_lies : (n at : ℕ) (bs : List ℕ) (o : Option ℕ) → at + length bs ≤ size → before_opening bs ≡ o
      → ((at : ℕ) (rest : List ℕ) → at + length rest ≤ size → ChunkedLies (chunks_within n at rest)) → ChunkedLies (with_opening (chunks_within n) at bs o)
  opening_lies n at bs None room e ih = (tt, tt)
  opening_lies n at bs (Some before) room e ih =
      let fits = opening_fits bs before e in
      content_lies n (at + before + 3) (drop (before + 3) bs) (closing_position (drop (before + 3) bs)) (omega (arith, room, fits, length-drop (before + 3) bs)) refl ih

  chunked_lies : (n at : ℕ) (bs : List ℕ) → at + length bs ≤ size → ChunkedLies (chunks_within n at bs)
  chunked_lies zero at bs room = (tt, tt)
  chunked_lies (suc n) at bs room = opening_lies n at bs (before_opening bs) room refl (chunked_lies n)

pub chunks_lie : (text : List ℕ) → AllByRecursion (λ (s : Span). LiesIn (length text) s) (chunks_of text).chunks × AllLie (length text) (option_to_list (chunks_of text).fault)
chunks_lie bytes = chunked_lies (length bytes) (length bytes) 0 bytes (omega arith)
