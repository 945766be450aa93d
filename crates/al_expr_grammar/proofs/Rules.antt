-- Each rule of the grammar, and each fault of the parser, agrees with the table.
use Rattle.std.proofs.Common.{◌≡◌, ℕ, suc, ◌+◌, ◌<◌, ◌≤◌, List, [], ◌∷◌, ◌++◌, length, refl, sym, ap, ◌∙◌, arith, nat_lt, cond, subst}
use Rattle.al_base.specs.declared.faults.Span.{Span}
use Rattle.al_expr_grammar.specs.declared.token.Operator.{Operator}
use Rattle.al_expr_grammar.specs.declared.token.Operator.TheVariants as op
use Rattle.al_expr_grammar.specs.declared.token.TokenKind.{TokenKind}
use Rattle.al_expr_grammar.specs.declared.token.TokenKind.TheVariants.{Name, Keyword, Number, Text, Open, Close, OpenIndex, CloseIndex, Dot, Comma, Star, Infix}
use Rattle.al_expr_grammar.specs.declared.parser.ParseError.{ParseError}
use Rattle.al_expr_grammar.specs.Lexeme.{Lexeme, lexeme, kind_of, kinds}
use Rattle.al_expr_grammar.specs.Tree as tree
use Rattle.al_expr_grammar.specs.Tree.{Tree, Named, Property, All, arguments_of}
use Rattle.al_expr_grammar.specs.Grammar.{Binary, Primary, level_of}
use Rattle.al_expr_grammar.specs.Grammar.{name, call_empty, call, group}
use Rattle.al_expr_grammar.specs.Grammar.{to_property, to_keyword, to_all, to_each, to_index, Lists, listed, and_next}
use Rattle.al_expr_grammar.specs.Table.{Verdict, Unexpected, TooDeep, E, A, I, S, O, N, Bracket, Group, Call, Index, Frame, outside, scan}
use Rattle.al_expr_grammar.specs.Parsed.{EndsPath, EndsLevel, IsVerdict, Parsed, Refused, StepRead, StepRefused, ArgumentsPart, ArgumentsRead, ArgumentsRefused, IsStray, Lacks, error_at}
use Rattle.std.proofs.lemmas.Bool.Decides.{nat_tests}
use Rattle.std.proofs.lemmas.List.{length-map}

pub at_most_three : (o : Operator) → level_of o ≤ 3
at_most_three op.Or = omega arith
at_most_three _ = omega arith

-- one level deeper, if there is room
abbrev pub deeper : ℕ → ℕ → Verdict → Verdict
deeper n left v = cond (nat_lt n 50) v (TooDeep left)

pub not_deeper : (n left : ℕ) (v : Verdict) → n < 50 → deeper n left v ≡ v
not_deeper n left v h = grind (arith, nat_tests)

pub same_length : (ts : List Lexeme) → length (kinds ts) ≡ length ts
same_length ts = length-map ts kind_of

-- If no path continues, the number of open negations doesn't matter.
pub settled : (k j : ℕ) (st : List Frame) (ts : List TokenKind) → EndsPath ts → scan O k st ts ≡ scan O j st ts
settled k j st [] h = refl
settled k j st (Dot ∷ ts) h = absurd h
settled k j st (OpenIndex ∷ ts) h = absurd h
settled k j [] (t ∷ ts) h = refl
settled k j ((Group, i) ∷ st) (t ∷ ts) h = refl
settled k j (f ∷ st) (t ∷ ts) h = refl

pub uncalled : (k : ℕ) (st : List Frame) (ts : List TokenKind) → Lacks Open ts → scan N k st ts ≡ scan O k st ts
uncalled k [] [] h = refl
uncalled k (f ∷ st) [] h = refl
uncalled k st (Open ∷ ts) h = absurd (h ts refl)
uncalled k st (t ∷ ts) h = refl

pub in_call : (k : ℕ) (st : List Frame) (ts : List TokenKind) → Lacks Close ts → scan A k st ts ≡ scan E k st ts
in_call k st (Close ∷ ts) h = absurd (h ts refl)
in_call k st ts h = refl

pub in_index : (k : ℕ) (st : List Frame) (ts : List TokenKind) → Lacks Star ts → scan I k st ts ≡ scan E k st ts
in_index k st (Star ∷ ts) h = absurd (h ts refl)
in_index k st ts h = refl

-- the same verdict from other tokens
pub likewise : (e : ParseError) (v w : Verdict) → v ≡ w → IsVerdict e w → IsVerdict e v
likewise e v w same h = subst (IsVerdict e) (sym same) h

pub unexpected : (ts : List Lexeme) → Unexpected (suc (length (kinds ts))) ≡ Unexpected (suc (length ts))
unexpected ts = ap (λ n. Unexpected (suc n)) (same_length ts)

-- the first token neither closes these brackets nor continues in them
abbrev pub EndsInside : Bracket → List TokenKind → Type 0
EndsInside Group ts = Lacks Close ts
EndsInside Call ts = Lacks Comma ts × Lacks Close ts
EndsInside Index ts = Lacks CloseIndex ts

-- the first token can't follow an expression inside these brackets
stray : (f : Frame) (st : List Frame) (us : List Lexeme) → EndsLevel 3 (kinds us) → EndsInside f.0 (kinds us) → IsVerdict (error_at us) (scan O 0 (f ∷ st) (kinds us))
stray f st [] h c = refl
stray f st (lexeme Dot b s ∷ us) h c = absurd h
stray f st (lexeme OpenIndex b s ∷ us) h c = absurd h
stray f st (lexeme (Infix o) b s ∷ us) h c = absurd (omega (arith, h, at_most_three o))
stray (Group, k) st (lexeme Close b s ∷ us) h c = absurd (c (kinds us) refl)
stray (Call, k) st (lexeme Close b s ∷ us) h c = absurd (c.1 (kinds us) refl)
stray (Call, k) st (lexeme Comma b s ∷ us) h c = absurd (c.0 (kinds us) refl)
stray (Index, k) st (lexeme CloseIndex b s ∷ us) h c = absurd (c (kinds us) refl)
stray f st (lexeme t b s ∷ us) h c = unexpected us

-- a literal
pub constant_read : (room : ℕ) (w : _) (b : List ℕ) (s : Span) (rest : List Lexeme) → Parsed Primary room (lexeme (Keyword w) b s ∷ rest) (tree.Constant w s) rest
constant_read room w b s rest = record { derives = Rattle.al_expr_grammar.specs.Grammar.constant; goes = λ k st a h. refl; stops = tt; shorter = omega arith }

pub number_read : (room : ℕ) (b : List ℕ) (s : Span) (rest : List Lexeme) → Parsed Primary room (lexeme Number b s ∷ rest) (tree.Number b s) rest
number_read room b s rest = record { derives = Rattle.al_expr_grammar.specs.Grammar.number; goes = λ k st a h. refl; stops = tt; shorter = omega arith }

pub text_read : (room : ℕ) (b : List ℕ) (s : Span) (rest : List Lexeme) → Parsed Primary room (lexeme Text b s ∷ rest) (tree.Text b s) rest
text_read room b s rest = record { derives = Rattle.al_expr_grammar.specs.Grammar.text; goes = λ k st a h. refl; stops = tt; shorter = omega arith }

pub name_read : (room : ℕ) (b : List ℕ) (s : Span) (rest : List Lexeme) → Lacks Open (kinds rest) → Parsed Primary room (lexeme Name b s ∷ rest) (Named b s) rest
name_read room b s rest never = record { derives = name; goes = λ k st a h. uncalled k st (kinds rest) never; stops = tt; shorter = omega arith }

-- brackets
module _ (room inner : ℕ) (b : List ℕ) (s : Span) (ts : List Lexeme) (one : inner + 1 ≡ room) where
  in_group : (k : ℕ) (st : List Frame) → k + outside st + room ≡ 50 → scan E k st (Open ∷ kinds ts) ≡ scan E 0 ((Group, k) ∷ st) (kinds ts)
  in_group k st h = not_deeper (k + outside st) _ _ (omega arith)

  pub group_read : (c : List ℕ) (e : Span) (rest : List Lexeme) (t : Tree) → Parsed (Binary 3) inner ts t (lexeme Close c e ∷ rest) → Parsed Primary room (lexeme Open b s ∷ ts) (tree.Group t s e) rest
  group_read c e rest t p = record {
    derives = group p.derives;
    goes = λ k st a h. in_group k st h ∙ p.goes 0 ((Group, k) ∷ st) refl (omega arith);
    stops = tt;
    shorter = let short = p.shorter in omega arith;
  }

  pub group_refused : (e : ParseError) → Refused (Binary 3) inner ts e → Refused Primary room (lexeme Open b s ∷ ts) e
  group_refused e r = λ k st a h. likewise e _ _ (in_group k st h) (r 0 ((Group, k) ∷ st) refl (omega arith))

  pub group_not_closed : (mid : List Lexeme) (t : Tree) (e : ParseError) → Parsed (Binary 3) inner ts t mid → IsStray mid Close e → Refused Primary room (lexeme Open b s ∷ ts) e
  group_not_closed mid t e p i =
      rw i.fault (λ k st a h. likewise (error_at mid) _ _ (in_group k st h ∙ p.goes 0 ((Group, k) ∷ st) refl (omega arith)) (stray (Group, k) st mid p.stops i.other))

  -- an index
  to_inside : (k : ℕ) (st : List Frame) → Lacks Star (kinds ts) → k + outside st + room ≡ 50 → scan O k st (OpenIndex ∷ kinds ts) ≡ scan E 0 ((Index, k) ∷ st) (kinds ts)
  to_inside k st n h = not_deeper (k + outside st) _ _ (omega arith) ∙ in_index 0 ((Index, k) ∷ st) (kinds ts) n

  pub index_read : (c : List ℕ) (e : Span) (rest : List Lexeme) (t : Tree) → Lacks Star (kinds ts)
      → Parsed (Binary 3) inner ts t (lexeme CloseIndex c e ∷ rest) → StepRead room (lexeme OpenIndex b s ∷ ts) (tree.Index s t e) rest
  index_read c e rest t n p = record {
    derives = λ ss after w. to_index p.derives w;
    goes = λ k st h. to_inside k st n h ∙ p.goes 0 ((Index, k) ∷ st) refl (omega arith);
    shorter = let short = p.shorter in omega arith;
  }

  pub index_refused : (e : ParseError) → Lacks Star (kinds ts) → Refused (Binary 3) inner ts e → StepRefused room (lexeme OpenIndex b s ∷ ts) e
  index_refused e n r = λ k st h. likewise e _ _ (to_inside k st n h) (r 0 ((Index, k) ∷ st) refl (omega arith))

  pub index_not_closed : (mid : List Lexeme) (t : Tree) (e : ParseError) → Parsed (Binary 3) inner ts t mid → Lacks Star (kinds ts) → IsStray mid CloseIndex e
      → StepRefused room (lexeme OpenIndex b s ∷ ts) e
  index_not_closed mid t e p n i =
      rw i.fault (λ k st h. likewise (error_at mid) _ _ (to_inside k st n h ∙ p.goes 0 ((Index, k) ∷ st) refl (omega arith)) (stray (Index, k) st mid p.stops i.other))

-- calls
pub lists_append : (ts mid rest : List Lexeme) (more : List Tree) (t : Tree) → Lists ts more mid → Lists mid (t ∷ []) rest → Lists ts (more ++ t ∷ []) rest
lists_append ts mid rest more t listed one = one
lists_append ts mid rest more t (and_next d w) one = and_next d (lists_append _ mid rest _ t w one)

pub first_argument_read : (room : ℕ) (ts rest : List Lexeme) (t : Tree) → Parsed (Binary 3) room ts t rest → ArgumentsPart room ts (t ∷ []) rest
first_argument_read room ts rest t p = record {
  first = t;
  more = [];
  mid = rest;
  is = refl;
  begins = p.derives;
  lists = listed;
  goes = λ k st h. p.goes 0 ((Call, k) ∷ st) refl (omega arith);
  stops = p.stops;
  shorter = p.shorter;
}

pub later_argument_read : (room : ℕ) (ts us rest : List Lexeme) (all : List Tree) (b : List ℕ) (s : Span) (t : Tree) →
    ArgumentsPart room ts all (lexeme Comma b s ∷ us) → Parsed (Binary 3) room us t rest → ArgumentsPart room ts (all ++ t ∷ []) rest
later_argument_read room ts us rest all b s t a p = record {
  first = a.first;
  more = a.more ++ t ∷ [];
  mid = a.mid;
  is = ap (λ l. l ++ t ∷ []) a.is;
  begins = a.begins;
  lists = lists_append a.mid _ rest a.more t a.lists (and_next p.derives listed);
  goes = λ k st h. a.goes k st h ∙ p.goes 0 ((Call, k) ∷ st) refl (omega arith);
  stops = p.stops;
  shorter = let x = a.shorter in let y = p.shorter in omega arith;
}

module _ (inner : ℕ) (ts : List Lexeme) (n : Lacks Close (kinds ts)) where
  into_call : (room k : ℕ) (st : List Frame) → inner + 1 ≡ room → k + outside st + room ≡ 50 → scan E k st (Name ∷ Open ∷ kinds ts) ≡ scan E 0 ((Call, k) ∷ st) (kinds ts)
  into_call room k st one h = not_deeper (k + outside st) _ _ (omega arith) ∙ in_call 0 ((Call, k) ∷ st) (kinds ts) n

  past_arguments : (left : List Lexeme) (all : List Tree) → ArgumentsPart inner ts all left → (room k : ℕ) (st : List Frame) → inner + 1 ≡ room → k + outside st + room ≡ 50
      → scan E k st (Name ∷ Open ∷ kinds ts) ≡ scan O 0 ((Call, k) ∷ st) (kinds left)
  past_arguments left all a room k st one h = into_call room k st one h ∙ a.goes k st (omega arith)

  pub first_argument_refused : (e : ParseError) → Refused (Binary 3) inner ts e → ArgumentsRefused inner ts e
  first_argument_refused e r = λ room b c s u one k st a h. likewise e _ _ (into_call room k st one h) (r 0 ((Call, k) ∷ st) refl (omega arith))

  pub later_argument_refused : (us : List Lexeme) (all : List Tree) (b : List ℕ) (s : Span) (e : ParseError) → ArgumentsPart inner ts all (lexeme Comma b s ∷ us)
      → Refused (Binary 3) inner us e → ArgumentsRefused inner ts e
  later_argument_refused us all b s e a r = λ room c d u v one k st x h. likewise e _ _ (past_arguments _ all a room k st one h) (r 0 ((Call, k) ∷ st) refl (omega arith))

  module _ (room : ℕ) (b c : List ℕ) (s u : Span) (one : inner + 1 ≡ room) where
    pub call_closed : (d : List ℕ) (e : Span) (rest : List Lexeme) (all : List Tree) → ArgumentsRead inner ts all (lexeme Close d e ∷ rest) →
        Parsed Primary room (lexeme Name b s ∷ lexeme Open c u ∷ ts) (tree.Call b s (arguments_of all) e) rest
    call_closed d e rest all a = rw a.part.is (record {
      derives = call a.part.begins a.part.lists;
      goes = λ k st x h. past_arguments _ all a.part room k st one h;
      stops = tt;
      shorter = let x = a.part.shorter in omega arith;
    })

    pub call_not_closed : (left : List Lexeme) (all : List Tree) (e : ParseError) → ArgumentsRead inner ts all left → IsStray left Close e →
        Refused Primary room (lexeme Name b s ∷ lexeme Open c u ∷ ts) e
    call_not_closed left all e a i =
        rw i.fault (λ k st x h. likewise (error_at left) _ _ (past_arguments left all a.part room k st one h) (stray (Call, k) st left a.part.stops (a.ends, i.other)))

pub call_empty_read : (room inner : ℕ) (b c d : List ℕ) (s u e : Span) (rest : List Lexeme) → inner + 1 ≡ room →
    Parsed Primary room (lexeme Name b s ∷ lexeme Open c u ∷ lexeme Close d e ∷ rest) (tree.Call b s (arguments_of []) e) rest
call_empty_read room inner b c d s u e rest one = record {
  derives = call_empty;
  goes = λ k st a h. not_deeper (k + outside st) _ _ (omega arith);
  stops = tt;
  shorter = omega arith;
}

-- steps of a path
pub property_read : (room : ℕ) (b c : List ℕ) (s d : Span) (rest : List Lexeme) → StepRead room (lexeme Dot c d ∷ lexeme Name b s ∷ rest) (Property d b s) rest
property_read room b c s d rest = record { derives = λ ss after w. to_property w; goes = λ k st h. refl; shorter = omega arith }

pub keyword_read : (room : ℕ) (w : _) (b c : List ℕ) (s d : Span) (rest : List Lexeme) → StepRead room (lexeme Dot c d ∷ lexeme (Keyword w) b s ∷ rest) (Property d b s) rest
keyword_read room w b c s d rest = record { derives = λ ss after x. to_keyword x; goes = λ k st h. refl; shorter = omega arith }

pub all_read : (room : ℕ) (b c : List ℕ) (s d : Span) (rest : List Lexeme) → StepRead room (lexeme Dot c d ∷ lexeme Star b s ∷ rest) (All d s) rest
all_read room b c s d rest = record { derives = λ ss after w. to_all w; goes = λ k st h. refl; shorter = omega arith }

pub each_read : (room inner : ℕ) (a b c : List ℕ) (s d e : Span) (rest : List Lexeme) → inner + 1 ≡ room
    → StepRead room (lexeme OpenIndex c d ∷ lexeme Star b s ∷ lexeme CloseIndex a e ∷ rest) (All d e) rest
each_read room inner a b c s d e rest one = record { derives = λ ss after w. to_each w; goes = λ k st h. not_deeper (k + outside st) _ _ (omega arith); shorter = omega arith }

after_star : (k : ℕ) (st : List Frame) (us : List Lexeme) → Lacks CloseIndex (kinds us) → IsVerdict (error_at us) (scan S 0 ((Index, k) ∷ st) (kinds us))
after_star k st [] n = refl
after_star k st (lexeme CloseIndex b s ∷ us) n = absurd (n (kinds us) refl)
after_star k st (lexeme t b s ∷ us) n = unexpected us

pub star_not_closed : (room inner : ℕ) (b c : List ℕ) (s d : Span) (us : List Lexeme) (e : ParseError) → inner + 1 ≡ room → IsStray us CloseIndex e
    → StepRefused room (lexeme OpenIndex c d ∷ lexeme Star b s ∷ us) e
star_not_closed room inner b c s d us e one i =
    rw i.fault (λ k st h. likewise (error_at us) _ _ (not_deeper (k + outside st) _ _ (omega arith)) (after_star k st us i.other))
