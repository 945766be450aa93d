-- The tree that is built from tokens is the one that the grammar derives.
use Rattle.std.proofs.Common.{◌≡◌, ℕ, zero, suc, ◌<◌, List, [], ◌∷◌, ◌++◌, drop, slice_index_or, append-nil, refl, sym, ap, ◌∙◌, arith, subst}
use Rattle.std.specs.List.{fold}
use Rattle.al_base.specs.declared.faults.Span.{Span}
use Rattle.al_expr_grammar.specs.declared.token.Operator.{Operator}
use Rattle.al_expr_grammar.specs.declared.token.TokenKind.{TokenKind}
use Rattle.al_expr_grammar.specs.declared.token.TokenKind.TheVariants.{Name, Open, Close, OpenIndex, Dot, Comma, Star, Bang, Infix}
use Rattle.al_expr_grammar.specs.Lexeme.{Lexeme, lexeme, kinds}
use Rattle.al_expr_grammar.specs.Tree.{Sign, sign, Tree, Named, Negated, StepTree, Property, All, Index, arguments_of, chain_of}
use Rattle.al_expr_grammar.specs.Tree as tree
use Rattle.al_expr_grammar.specs.Grammar.{Nonterminal, Binary, Unary, Postfix, Primary, level_of, below, Derives, single, chain, positive, IsTreeOf}
use Rattle.al_expr_grammar.specs.Grammar.{negated, bare, path, name, call, group, Operators, no_more}
use Rattle.al_expr_grammar.specs.Grammar.{one_more, Walks, arrived, to_property, to_keyword, to_all, to_each, to_index, Lists, listed, and_next}
use Rattle.al_expr_grammar.specs.Building.{Remainder, Following, add_operator, following_operand, from_operand, in_bracket, past_bracket, whole}
use Rattle.al_expr_grammar.specs.Building.{with_path, with_step}
use Rattle.al_expr_grammar.proofs.Shape.{Begins, NoCall, begins, before_walks}

-- ---- what may follow

-- No step of a path and no call follows.
abbrev NoMore : List TokenKind → Type 0
NoMore (Dot ∷ ts) = ⊥
NoMore (OpenIndex ∷ ts) = ⊥
NoMore (Open ∷ ts) = ⊥
NoMore _ = Unit {0}

-- Nor does an operator of this level or a tighter one.
abbrev NoMoreAt : ℕ → List TokenKind → Type 0
NoMoreAt l (Dot ∷ ts) = ⊥
NoMoreAt l (OpenIndex ∷ ts) = ⊥
NoMoreAt l (Open ∷ ts) = ⊥
NoMoreAt l (Infix o ∷ ts) = l < level_of o
NoMoreAt l _ = Unit {0}

abbrev EndsRule : Nonterminal → List TokenKind → Type 0
EndsRule (Binary l) ts = NoMoreAt l ts
EndsRule Unary ts = NoMore ts
EndsRule Postfix ts = NoMore ts
EndsRule Primary ts = NoCall ts

tighter : (l : ℕ) (ts : List TokenKind) → NoMoreAt (suc l) ts → NoMoreAt l ts
tighter l [] h = tt
tighter l (Infix o ∷ ts) h = omega (arith, h)
tighter l (t ∷ ts) h = h

no_operator : (ts : List TokenKind) → NoMoreAt 0 ts → NoMore ts
no_operator [] h = tt
no_operator (Infix o ∷ ts) h = tt
no_operator (t ∷ ts) h = h

no_path : (ts : List TokenKind) → NoMore ts → NoCall ts
no_path (Open ∷ ts) h = h
no_path ts h = tt

ends_below : (l : ℕ) (ts : List TokenKind) → NoMoreAt l ts → EndsRule (below l) ts
ends_below zero ts h = no_operator ts h
ends_below (suc l) ts h = tighter l ts h

ends_at : (l : ℕ) (o : Operator) (ts : List TokenKind) → level_of o ≡ l → EndsRule (below l) (Infix o ∷ ts)
ends_at zero o ts e = tt
ends_at (suc l) o ts e = omega (arith, e)

before_ops : {l : ℕ} {ts rest : List Lexeme} {os : List (Sign × Tree)} → Operators l ts os rest → NoMoreAt l (kinds rest) → EndsRule (below l) (kinds ts)
before_ops {l = l} {ts = ts} no_more h = ends_below l (kinds ts) h
before_ops {l = l} (one_more {o = o} {ts = ts} e d w) h = ends_at l o (kinds ts) e

before_args : {d : List ℕ} {e : Span} {ts rest : List Lexeme} {more : List Tree} → Lists ts more (lexeme Close d e ∷ rest) → NoMoreAt 3 (kinds ts)
before_args listed = tt
before_args (and_next d w) = tt

-- ---- levels of operators

abbrev Levels : Type 0
Levels = List (List (Sign × Tree))

-- The operators of the n tightest levels after t make u; the looser ones remain.
abbrev Closes : ℕ → Tree → Levels → Tree → Levels → Type 0
Closes zero t levels u others = (t ≡ u) × (levels ≡ others)
Closes (suc n) t levels u others = (slice_index_or others 0 [] ≡ []) × Closes n (chain_of t (slice_index_or levels 0 [])) (drop 1 levels) u (drop 1 others)

-- There is no operator of this level or a tighter one.
abbrev Free : ℕ → Levels → Type 0
Free zero levels = slice_index_or levels 0 [] ≡ []
Free (suc l) levels = (slice_index_or levels 0 [] ≡ []) × Free l (drop 1 levels)

abbrev added : ℕ → List (Sign × Tree) → Levels → Levels
added l [] levels = levels
added l (o ∷ os) levels = add_operator l o.0 o.1 (added l os levels)

free_none : (l : ℕ) → Free l []
free_none zero = refl
free_none (suc l) = (refl, free_none l)

free_added : (l n : ℕ) (s : Sign) (t : Tree) (levels : Levels) → l < n → Free l (add_operator n s t levels)
free_added l zero s t levels h = absurd (omega (arith, h))
free_added zero (suc n) s t levels h = refl
free_added (suc l) (suc n) s t levels h = (refl, free_added l n s _ _ (omega (arith, h)))

same_added : (l : ℕ) (s : Sign) (t u : Tree) (levels others : Levels) → Closes l t levels u others → add_operator l s t levels ≡ add_operator l s u others
same_added zero s t u levels others c = ap (λ v. add_operator 0 s v levels) c.0 ∙ ap (add_operator 0 s u) c.1
same_added (suc l) s t u levels others c =
    ap (λ x. [] ∷ x) (same_added l s _ u _ _ c.1) ∙ ap (λ os. [] ∷ add_operator l s (chain_of u os) (drop 1 others)) (sym c.0)

first_added : (os : List (Sign × Tree)) (levels : Levels) → slice_index_or levels 0 [] ≡ [] → slice_index_or (added 0 os levels) 0 [] ≡ os
first_added [] levels e = e
first_added (o ∷ os) levels e = ap (λ l. o ∷ l) (first_added os levels e)

rest_added : (os : List (Sign × Tree)) (levels : Levels) → drop 1 (added 0 os levels) ≡ drop 1 levels
rest_added [] levels = refl
rest_added (o ∷ os) levels = rest_added os levels

none_added : (l : ℕ) (os : List (Sign × Tree)) (levels : Levels) → slice_index_or levels 0 [] ≡ [] → slice_index_or (added (suc l) os levels) 0 [] ≡ []
none_added l [] levels e = e
none_added l (o ∷ os) levels e = refl

looser_added : (l : ℕ) (os : List (Sign × Tree)) (levels : Levels) → slice_index_or levels 0 [] ≡ [] → drop 1 (added (suc l) os levels) ≡ added l os (drop 1 levels)
looser_added l [] levels e = refl
looser_added l (o ∷ os) levels e =
    ap (λ first. add_operator l o.0 (chain_of o.1 first) (drop 1 (added (suc l) os levels))) (none_added l os levels e)
    ∙ ap (add_operator l o.0 o.1) (looser_added l os levels e)

chain_closes : (l : ℕ) (t u : Tree) (levels others : Levels) (os : List (Sign × Tree)) → Free l others → Closes l t levels u (added l os others)
    → Closes (suc l) t levels (chain_of u os) others
chain_closes zero t u levels others os free c = (
  free,
  (
    ap (λ v. chain_of v (slice_index_or levels 0 [])) c.0 ∙ ap (λ ls. chain_of u (slice_index_or ls 0 [])) c.1 ∙ ap (chain_of u) (first_added os others free),
    ap (drop 1) c.1 ∙ rest_added os others,
  ),
)
chain_closes (suc l) t u levels others os free c =
    (free.0, chain_closes l _ u _ (drop 1 others) os free.1 (subst (Closes l (chain_of t (slice_index_or levels 0 [])) (drop 1 levels) u) (looser_added l os others free.0) c.1))

whole_closes : (n : ℕ) (t u : Tree) (levels : Levels) → Closes n t levels u [] → fold chain_of t levels ≡ u
whole_closes zero t u levels c = ap (fold chain_of t) c.1 ∙ c.0
whole_closes (suc n) t u [] c = whole_closes n t u [] c.1
whole_closes (suc n) t u (os ∷ more) c = whole_closes n (chain_of t os) u more c.1

-- ---- operands and what follows them

-- The operators of the n tightest levels after an operand make the tree t, which f follows.
record Reaches (n : ℕ) (x : Tree × Following) (t : Tree) (f : Following) : Type 0 where
  closes : Closes n x.0 x.1.0.levels t f.0.levels
  rest : x.1 ≡ (record f.0 { levels = x.1.0.levels }, f.1)

abbrev Builds : Nonterminal → List Lexeme → Tree → List Lexeme → Type 0
Builds (Binary l) ts t rest = Reaches (suc l) (from_operand ts) t (following_operand rest)
Builds Unary ts t rest = Reaches 0 (from_operand ts) t (following_operand rest)
Builds Postfix ts t rest = Reaches 0 (from_operand ts) t (following_operand rest)
Builds Primary ts t rest = from_operand ts ≡ with_path t (following_operand rest)

builds_below : (l : ℕ) (ts rest : List Lexeme) (t : Tree) → Builds (below l) ts t rest → Reaches l (from_operand ts) t (following_operand rest)
builds_below zero ts rest t b = b
builds_below (suc l) ts rest t b = b

alone : (x : Tree × Following) (t : Tree) (f : Following) → x ≡ (t, f) → Reaches 0 x t f
alone x t f e = subst (λ y. Reaches 0 y t f) (sym e) (record { closes = (refl, refl); rest = refl })

abbrev with_operator : ℕ → Sign → Tree × Following → Following
with_operator l s x = (record x.1.0 { levels = add_operator l s x.0 x.1.0.levels }, x.1.1)

abbrev with_argument : Tree × Following → Following
with_argument x = (record x.1.0 { levels = []; arguments = whole x ∷ x.1.0.arguments }, x.1.1)

abbrev operated : ℕ → List (Sign × Tree) → Following → Following
operated l os f = (record f.0 { levels = added l os f.0.levels }, f.1)

chained : (l : ℕ) (x : Tree × Following) (t : Tree) (os : List (Sign × Tree)) (f : Following) → Free l f.0.levels → Reaches l x t (operated l os f)
    → Reaches (suc l) x (chain_of t os) f
chained l x t os f free r = record { closes = chain_closes l x.0 t x.1.0.levels f.0.levels os free r.closes; rest = r.rest }

one_operated : (l : ℕ) (s : Sign) (x : Tree × Following) (t : Tree) (f : Following) → Reaches l x t f → with_operator l s x ≡ operated l ((s, t) ∷ []) f
one_operated l s x t f r =
    ap (λ y. (record y.0 { levels = add_operator l s x.0 x.1.0.levels }, y.1)) r.rest
    ∙ ap (λ levels. (record f.0 { levels = levels }, f.1)) (same_added l s x.0 t x.1.0.levels f.0.levels r.closes)

-- what is in a bracket after an operand without operators and steps
abbrev inside : List Tree → Span → List Remainder → Following
inside more s around = (record { steps = []; levels = []; arguments = more; close = s }, around)

abbrev around : List Lexeme → List Remainder
around rest = (following_operand rest).0 ∷ (following_operand rest).1

module _ (x : Tree × Following) (t : Tree) (more : List Tree) (s : Span) (outer : List Remainder) (r : Reaches 4 x t (inside more s outer)) where
  tree_is : whole x ≡ t
  tree_is = whole_closes 4 x.0 t x.1.0.levels r.closes

  argued : with_argument x ≡ inside (t ∷ more) s outer
  argued =
      ap (λ u. (record x.1.0 { levels = []; arguments = u ∷ x.1.0.arguments }, x.1.1)) tree_is
      ∙ ap (λ y. (record y.0 { levels = []; arguments = t ∷ y.0.arguments }, y.1)) r.rest

  bracketed : (make : Tree → List Tree → Span → Tree) → in_bracket make x ≡ with_path (make t more s) (past_bracket outer)
  bracketed make =
      ap (λ u. with_path (make u x.1.0.arguments x.1.0.close) (past_bracket x.1.1)) tree_is
      ∙ ap (λ y. with_path (make t y.0.arguments y.0.close) (past_bracket y.1)) r.rest

  indexed : (d : Span) → with_step (Index d (whole x) x.1.0.close) (past_bracket x.1.1) ≡ with_step (Index d t s) (past_bracket outer)
  indexed d =
      ap (λ u. with_step (Index d u x.1.0.close) (past_bracket x.1.1)) tree_is
      ∙ ap (λ y. with_step (Index d t y.0.close) (past_bracket y.1)) r.rest

abbrev walked : List StepTree → Following → Following
walked ss f = (record f.0 { steps = ss ++ f.0.steps }, f.1)

free_at : (l : ℕ) (ts : List Lexeme) → NoMoreAt l (kinds ts) → Free l (following_operand ts).0.levels
free_at l [] h = free_none l
free_at l (lexeme Dot b s ∷ ts) h = absurd h
free_at l (lexeme OpenIndex b s ∷ ts) h = absurd h
free_at l (lexeme Open b s ∷ ts) h = absurd h
free_at l (lexeme (Infix o) b s ∷ ts) h = free_added l (level_of o) (sign o s) (from_operand ts).0 (from_operand ts).1.0.levels h
free_at l (lexeme Comma b s ∷ ts) h = free_none l
free_at l (lexeme k b s ∷ ts) h = free_none l

no_step_left : (ts : List Lexeme) → (from_operand ts).1.0.steps ≡ []
no_step_left (lexeme Bang b s ∷ ts) = no_step_left ts
no_step_left (lexeme Name b s ∷ []) = refl
no_step_left (lexeme Name b s ∷ lexeme Open c u ∷ []) = refl
no_step_left (lexeme Name b s ∷ lexeme Open c u ∷ lexeme Close d e ∷ ts) = refl
no_step_left (lexeme Name b s ∷ lexeme Open c u ∷ lexeme k d e ∷ ts) = refl
no_step_left (lexeme Name b s ∷ lexeme k c u ∷ ts) = refl
no_step_left [] = refl
no_step_left (lexeme k b s ∷ ts) = refl

no_step : (ts : List Lexeme) → NoMore (kinds ts) → (following_operand ts).0.steps ≡ []
no_step [] h = refl
no_step (lexeme Dot b s ∷ ts) h = absurd h
no_step (lexeme OpenIndex b s ∷ ts) h = absurd h
no_step (lexeme Open b s ∷ ts) h = absurd h
no_step (lexeme (Infix o) b s ∷ ts) h = no_step_left ts
no_step (lexeme Comma b s ∷ ts) h = no_step_left ts
no_step (lexeme k b s ∷ ts) h = refl

-- an operand with the steps after it
stepped : (t : Tree) (ss : List StepTree) (f : Following) → f.0.steps ≡ [] → with_path t (walked ss f) ≡ (tree.path_of t ss, f)
stepped t ss f e =
    ap (λ l. (tree.path_of t l, (record f.0 { steps = [] }, f.1))) (ap (λ l. ss ++ l) e ∙ append-nil ss)
    ∙ ap (λ l. (tree.path_of t ss, (record f.0 { steps = l }, f.1))) (sym e)

named : (b : List ℕ) (s : Span) (ts : List Lexeme) → NoCall (kinds ts) → from_operand (lexeme Name b s ∷ ts) ≡ with_path (Named b s) (following_operand ts)
named b s (lexeme Open c u ∷ ts) h = absurd h
named b s ts h = refl

called : (b c : List ℕ) (s u : Span) (ts : List Lexeme) → Begins (kinds ts) → from_operand (lexeme Name b s ∷ lexeme Open c u ∷ ts)
    ≡ in_bracket (λ t more e. tree.Call b s (arguments_of (t ∷ more)) e) (from_operand ts)
called b c s u [] h = absurd h
called b c s u (lexeme Close d e ∷ ts) h = absurd h
called b c s u (lexeme k d e ∷ ts) h = refl

at_index : (b : List ℕ) (d : Span) (ts : List Lexeme) → Begins (kinds ts) → following_operand (lexeme OpenIndex b d ∷ ts)
    ≡ with_step (Index d (whole (from_operand ts)) (from_operand ts).1.0.close) (past_bracket (from_operand ts).1.1)
at_index b d [] h = absurd h
at_index b d (lexeme Star c s ∷ ts) h = absurd h
at_index b d (lexeme k c s ∷ ts) h = refl

-- ---- derivations, by induction

mutual
  built : {p : Nonterminal} {ts rest : List Lexeme} {t : Tree} → Derives p ts t rest → EndsRule p (kinds rest) → Builds p ts t rest
  built (single {l = l} {ts = ts} {rest = rest} {t = t} d) h =
      chained l (from_operand ts) t [] (following_operand rest) (free_at l rest h) (builds_below l ts rest t (built d (ends_below l (kinds rest) h)))
  built (chain {l = l} {ts = ts} {mid = mid} {rest = rest} {t = t} {o = o} {os = os} d w) h =
      chained l (from_operand ts) t (o ∷ os) (following_operand rest) (free_at l rest h)
      (subst (Reaches l (from_operand ts) t) (built_operators w h) (builds_below l ts mid t (built d (before_ops w h))))
  built (positive d) h = built d h
  built (negated {s = s} d) h = let r = built d h in record { closes = (ap (Negated s) r.closes.0, r.closes.1); rest = r.rest }
  built (bare {ts = ts} {rest = rest} {t = t} d) h =
      alone (from_operand ts) t (following_operand rest) (built d (no_path (kinds rest) h) ∙ stepped t [] (following_operand rest) (no_step rest h))
  built (path {ts = ts} {mid = mid} {rest = rest} {t = t} {s = s} {ss = ss} d w) h =
      alone (from_operand ts) (tree.Path t (tree.steps_of (s ∷ ss))) (following_operand rest)
      (built d (before_walks w (no_path (kinds rest) h)) ∙ ap (with_path t) (built_walks w h) ∙ stepped t (s ∷ ss) (following_operand rest) (no_step rest h))
  built (name {b = b} {s = s} {rest = rest}) h = named b s rest h
  built (call {b = b} {c = c} {d = d} {s = s} {u = u} {e = e} {ts = ts} {mid = mid} {rest = rest} {t = t} {more = more} x w) h =
      called b c s u ts (begins x)
      ∙ bracketed (from_operand ts) t more e (around rest) (subst (Reaches 4 (from_operand ts) t) (built_lists w) (built x (before_args w))) (λ t more e. tree.Call b s (arguments_of (t ∷ more)) e)
  built (group {s = s} {e = e} {ts = ts} {rest = rest} {t = t} d) h = bracketed (from_operand ts) t [] e (around rest) (built d tt) (λ t more e. tree.Group t s e)
  built _ h = refl

  built_operators : {l : ℕ} {ts rest : List Lexeme} {os : List (Sign × Tree)} → Operators l ts os rest → NoMoreAt l (kinds rest) → following_operand ts ≡ operated l os (following_operand rest)
  built_operators no_more h = refl
  built_operators {l = l} (one_more {o = o} {s = s} {ts = ts} {mid = mid} {rest = rest} {t = t} {os = os} e d w) h =
      ap (λ n. with_operator n (sign o s) (from_operand ts)) e
      ∙ one_operated l (sign o s) (from_operand ts) t (following_operand mid) (builds_below l ts mid t (built d (before_ops w h)))
      ∙ ap (λ f. operated l ((sign o s, t) ∷ []) f) (built_operators w h)

  built_walks : {ts rest : List Lexeme} {ss : List StepTree} → Walks ts ss rest → NoMore (kinds rest) → following_operand ts ≡ walked ss (following_operand rest)
  built_walks arrived h = refl
  built_walks (to_property {b = b} {s = s} {d = d} w) h = ap (with_step (Property d b s)) (built_walks w h)
  built_walks (to_keyword {b = b} {s = s} {d = d} w) h = ap (with_step (Property d b s)) (built_walks w h)
  built_walks (to_all {s = s} {d = d} w) h = ap (with_step (All d s)) (built_walks w h)
  built_walks (to_each {d = d} {e = e} w) h = ap (with_step (All d e)) (built_walks w h)
  built_walks (to_index {b = b} {s = s} {e = e} {ts = ts} {mid = mid} {t = t} d w) h =
      at_index b s ts (begins d) ∙ indexed (from_operand ts) t [] e (around mid) (built d tt) s ∙ ap (with_step (Index s t e)) (built_walks w h)

  built_lists : {d : List ℕ} {e : Span} {ts rest : List Lexeme} {more : List Tree} → Lists ts more (lexeme Close d e ∷ rest) → following_operand ts ≡ inside more e (around rest)
  built_lists listed = refl
  built_lists {e = e} {rest = rest} (and_next {ts = ts} {mid = mid} {t = t} {more = more} x w) =
      argued (from_operand ts) t more e (around rest) (subst (Reaches 4 (from_operand ts) t) (built_lists w) (built x (before_args w)))

-- The tree of tokens is the one that they spell.
pub builds_tree : (ts : List Lexeme) (t : Tree) → IsTreeOf t ts → whole (from_operand ts) ≡ t
builds_tree ts t d = tree_is (from_operand ts) t [] _ [] (built d tt)
