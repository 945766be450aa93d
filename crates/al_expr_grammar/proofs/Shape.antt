-- The table without its limit on nesting, and its relation to the grammar.
use Rattle.std.proofs.Common.{◌≡◌, ℕ, suc, ◌+◌, ◌<◌, ◌≤◌, Bool, true, false, List, [], ◌∷◌, ◌++◌, map, length, length-append, refl, subst, ◌∙◌, arith, nat_lt, cond}
use Rattle.al_expr_grammar.specs.declared.token.TokenKind.{TokenKind}
use Rattle.al_expr_grammar.specs.declared.token.TokenKind.TheVariants.{Name, Keyword, Number, Text, Open, Close, OpenIndex, CloseIndex, Dot, Comma, Star, Bang, Infix}
use Rattle.al_expr_grammar.specs.Lexeme.{Lexeme, kinds}
use Rattle.al_expr_grammar.specs.Tree.{Sign, Tree, StepTree}
use Rattle.al_expr_grammar.specs.Grammar.{Nonterminal, Derives, single, chain, positive, negated, bare, path, name}
use Rattle.al_expr_grammar.specs.Grammar.{call, group, Operators, no_more, one_more, Walks, arrived, to_property, to_keyword, to_all}
use Rattle.al_expr_grammar.specs.Grammar.{to_each, to_index, Lists, listed, and_next}
use Rattle.al_expr_grammar.specs.Table.{Verdict, Fine, Early, Unexpected, TooDeep, Mode, E, A, I, S, D, O, N, Frame, Group, Call, Index}
use Rattle.al_expr_grammar.specs.Table.{Transition, Stuck, Go, Deeper, operand, after_operand, step, finish, outside}
use Rattle.al_expr_grammar.specs.Table.{onward, scan}
use Rattle.al_expr_grammar.proofs.Left.{LiesIn, at_end, lies_on}

abbrev pub forget : List Frame → List Frame
forget st = map (λ f. (f.0, 0)) st

abbrev pub shape : Mode → List Frame → List TokenKind → Verdict
shape m st [] = finish m st
shape m st (t ∷ ts) = onward (step m 0 st t) true (suc (length ts)) (λ m' k' st'. shape m' st' ts)

-- the same verdict, unless the first is `TooDeep`
abbrev pub Agrees : Verdict → Verdict → Type 0
Agrees (TooDeep n) w = Unit {0}
Agrees v w = v ≡ w

agrees_if : (b : Bool) (n : ℕ) (v w : Verdict) → Agrees v w → Agrees (cond b v (TooDeep n)) w
agrees_if true n v w h = h
agrees_if false n v w h = tt

module _ (room : Bool) (left : ℕ) (go : Mode → ℕ → List Frame → Verdict) (on : Mode → List Frame → Verdict) (ih : (m : Mode) (k : ℕ) (st : List Frame) → Agrees (go m k st) (on m (forget st))) where
  abbrev Same : Transition → Transition → Type 0
  Same x y = Agrees (onward x room left go) (onward y true left (λ m k st. on m st))

  deeper_same : (m : Mode) (k j : ℕ) (st : List Frame) → Same (Deeper m k st) (Deeper m j (forget st))
  deeper_same m k j st = agrees_if room _ _ _ (ih m k st)

  operand_same : (k : ℕ) (st : List Frame) (t : TokenKind) → Same (operand k st t) (operand 0 (forget st) t)
  operand_same k st Name = ih N k st
  operand_same k st (Keyword w) = ih O k st
  operand_same k st Number = ih O k st
  operand_same k st Text = ih O k st
  operand_same k st Open = deeper_same E 0 0 ((Group, k) ∷ st)
  operand_same k st Bang = deeper_same E (suc k) 1 st
  operand_same k st _ = refl

  after_same : (k : ℕ) (st : List Frame) (t : TokenKind) → Same (after_operand k st t) (after_operand 0 (forget st) t)
  after_same k st (Infix o) = ih E 0 st
  after_same k st Dot = ih D k st
  after_same k st OpenIndex = deeper_same I 0 0 ((Index, k) ∷ st)
  after_same k ((Group, j) ∷ st) Close = ih O j st
  after_same k ((Call, j) ∷ st) Close = ih O j st
  after_same k ((Index, j) ∷ st) CloseIndex = ih O j st
  after_same k ((Call, j) ∷ st) Comma = ih E 0 ((Call, j) ∷ st)
  after_same k st _ = refl

  step_same : (m : Mode) (k : ℕ) (st : List Frame) (t : TokenKind) → Same (step m k st t) (step m 0 (forget st) t)
  step_same E k st t = operand_same k st t
  step_same A k st Close = after_same k st Close
  step_same A k st t = operand_same k st t
  step_same I k st Star = ih S k st
  step_same I k st t = operand_same k st t
  step_same S k st CloseIndex = after_same k st CloseIndex
  step_same S k st _ = refl
  step_same D k st Name = ih O k st
  step_same D k st (Keyword w) = ih O k st
  step_same D k st Star = ih O k st
  step_same D k st _ = refl
  step_same O k st t = after_same k st t
  step_same N k st Open = deeper_same A 0 0 ((Call, k) ∷ st)
  step_same N k st t = after_same k st t

finish_same : (m : Mode) (st : List Frame) → finish m st ≡ finish m (forget st)
finish_same O [] = refl
finish_same O (f ∷ st) = refl
finish_same N [] = refl
finish_same N (f ∷ st) = refl
finish_same _ st = refl

agrees_refl : (v w : Verdict) → v ≡ w → Agrees v w
agrees_refl (TooDeep n) w e = tt
agrees_refl Fine w e = e
agrees_refl Early w e = e
agrees_refl (Unexpected n) w e = e

pub scan_shape : (m : Mode) (k : ℕ) (st : List Frame) (ts : List TokenKind) → Agrees (scan m k st ts) (shape m (forget st) ts)
scan_shape m k st [] = agrees_refl _ _ (finish_same m st)
scan_shape m k st (t ∷ ts) =
    step_same (nat_lt (k + outside st) 50) (suc (length ts)) (λ m' k' st'. scan m' k' st' ts) (λ m' st'. shape m' st' ts) (λ m' k' st'. scan_shape m' k' st' ts) m k st t

-- The next token doesn't open the arguments of a call.
abbrev pub NoCall : List TokenKind → Type 0
NoCall (Open ∷ ts) = ⊥
NoCall _ = Unit {0}

pub uncalled : (st : List Frame) (ts : List TokenKind) → NoCall ts → shape N st ts ≡ shape O st ts
uncalled [] [] h = refl
uncalled (f ∷ st) [] h = refl
uncalled st (Open ∷ ts) h = absurd h
uncalled st (t ∷ ts) h = refl

-- The next token begins an operand.
abbrev pub Begins : List TokenKind → Type 0
Begins (Name ∷ ts) = Unit {0}
Begins (Keyword w ∷ ts) = Unit {0}
Begins (Number ∷ ts) = Unit {0}
Begins (Text ∷ ts) = Unit {0}
Begins (Open ∷ ts) = Unit {0}
Begins (Bang ∷ ts) = Unit {0}
Begins _ = ⊥

pub begins : {p : Nonterminal} {ts rest : List Lexeme} {t : Tree} → Derives p ts t rest → Begins (kinds ts)
begins (single d) = begins d
begins (chain d w) = begins d
begins (positive d) = begins d
begins (bare d) = begins d
begins (path d w) = begins d
begins _ = tt

in_call : (st : List Frame) (ts : List TokenKind) → Begins ts → shape A st ts ≡ shape E st ts
in_call st [] h = absurd h
in_call st (Close ∷ ts) h = absurd h
in_call st (t ∷ ts) h = refl

in_index : (st : List Frame) (ts : List TokenKind) → Begins ts → shape I st ts ≡ shape E st ts
in_index st [] h = absurd h
in_index st (Star ∷ ts) h = absurd h
in_index st (t ∷ ts) h = refl

pub before_operators : {l : ℕ} {ts rest : List Lexeme} {os : List (Sign × Tree)} → Operators l ts os rest → NoCall (kinds rest) → NoCall (kinds ts)
before_operators no_more h = h
before_operators (one_more e d w) h = tt

pub before_walks : {ts rest : List Lexeme} {ss : List StepTree} → Walks ts ss rest → NoCall (kinds rest) → NoCall (kinds ts)
before_walks arrived h = h
before_walks _ h = tt

pub before_lists : {ts rest : List Lexeme} {more : List Tree} → Lists ts more rest → NoCall (kinds rest) → NoCall (kinds ts)
before_lists listed h = h
before_lists (and_next d w) h = tt

mutual
  pub derives_shape : {p : Nonterminal} {ts rest : List Lexeme} {t : Tree} → Derives p ts t rest → NoCall (kinds rest) → (st : List Frame) → shape E st (kinds ts) ≡ shape O st (kinds rest)
  derives_shape (single d) h st = derives_shape d h st
  derives_shape (chain d w) h st = derives_shape d (before_operators w h) st ∙ operators_shape w h st
  derives_shape (positive d) h st = derives_shape d h st
  derives_shape (negated d) h st = derives_shape d h st
  derives_shape (bare d) h st = derives_shape d h st
  derives_shape (path d w) h st = derives_shape d (before_walks w h) st ∙ walks_shape w h st
  derives_shape name h st = uncalled st _ h
  derives_shape (call d w) h st = in_call ((Call, 0) ∷ st) _ (begins d) ∙ derives_shape d (before_lists w tt) ((Call, 0) ∷ st) ∙ lists_shape w tt st
  derives_shape (group d) h st = derives_shape d tt ((Group, 0) ∷ st)
  derives_shape _ h st = refl

  operators_shape : {l : ℕ} {ts rest : List Lexeme} {os : List (Sign × Tree)} → Operators l ts os rest → NoCall (kinds rest) → (st : List Frame) → shape O st (kinds ts) ≡ shape O st (kinds rest)
  operators_shape no_more h st = refl
  operators_shape (one_more e d w) h st = derives_shape d (before_operators w h) st ∙ operators_shape w h st

  walks_shape : {ts rest : List Lexeme} {ss : List StepTree} → Walks ts ss rest → NoCall (kinds rest) → (st : List Frame) → shape O st (kinds ts) ≡ shape O st (kinds rest)
  walks_shape arrived h st = refl
  walks_shape (to_property w) h st = walks_shape w h st
  walks_shape (to_keyword w) h st = walks_shape w h st
  walks_shape (to_all w) h st = walks_shape w h st
  walks_shape (to_each w) h st = walks_shape w h st
  walks_shape (to_index d w) h st = in_index ((Index, 0) ∷ st) _ (begins d) ∙ derives_shape d tt ((Index, 0) ∷ st) ∙ walks_shape w h st

  lists_shape : {ts rest : List Lexeme} {more : List Tree} → Lists ts more rest → NoCall (kinds rest) → (st : List Frame) → shape O ((Call, 0) ∷ st) (kinds ts) ≡ shape O ((Call, 0) ∷ st) (kinds rest)
  lists_shape listed h st = refl
  lists_shape (and_next d w) h st = derives_shape d (before_lists w h) ((Call, 0) ∷ st) ∙ lists_shape w h st

shape_lies : (ts : List TokenKind) (m : Mode) (st : List Frame) → LiesIn (length ts) (shape m st ts)
shape_lies [] m st = at_end m st
shape_lies (t ∷ ts) m st = lies_on (step m 0 st t) true (length ts) (λ m' k' st'. shape m' st' ts) (λ m' k' st'. shape_lies ts m' st')

bound : (ts : List TokenKind) (m : Mode) (st : List Frame) (n : ℕ) → shape m st ts ≡ Unexpected n → n ≤ length ts
bound ts m st n h = (subst (LiesIn (length ts)) h (shape_lies ts m st)).1

here : (o : Transition) (back other : List TokenKind) → onward o true (suc (length back)) (λ m k st. shape m st back)
    ≡ Unexpected (suc (length back)) → onward o true (suc (length other)) (λ m k st. shape m st other) ≡ Unexpected (suc (length other))
here Stuck back other h = refl
here (Go m k st) back other h = let j = bound back m st _ h in absurd (omega (arith, j))
here (Deeper m k st) back other h = let j = bound back m st _ h in absurd (omega (arith, j))

further : (o : Transition) (left n m : ℕ) (go on : Mode → ℕ → List Frame → Verdict) → n < left
    → ((a : Mode) (k : ℕ) (st : List Frame) → go a k st ≡ Unexpected n → on a k st ≡ Unexpected m) → onward o true left go ≡ Unexpected n
    → (left' : ℕ) → onward o true left' on ≡ Unexpected m
further Stuck left n m go on low ih h left' = let e : left ≡ n = cc in absurd (omega arith)
further (Go a k st) left n m go on low ih h left' = ih a k st h
further (Deeper a k st) left n m go on low ih h left' = ih a k st h

-- The first fault doesn't depend on the tokens after it.
pub same_fault : (front back other : List TokenKind) (x : TokenKind) (m : Mode) (st : List Frame) → shape m st (front ++ x ∷ back)
    ≡ Unexpected (length (x ∷ back)) → shape m st (front ++ x ∷ other) ≡ Unexpected (length (x ∷ other))
same_fault [] back other x m st h = here (step m 0 st x) back other h
same_fault (y ∷ front) back other x m st h =
    further (step m 0 st y) _ _ _ (λ m' k' st'. shape m' st' (front ++ x ∷ back)) (λ m' k' st'. shape m' st' (front ++ x ∷ other))
    (omega (arith, length-append front (x ∷ back))) (λ m' k' st' e. same_fault front back other x m' st' e) h _
