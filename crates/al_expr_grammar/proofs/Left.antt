-- A fault that the table finds is at one of the tokens.
use Rattle.std.proofs.Common.{◌≡◌, ◌<◌, ◌≤◌, ℕ, zero, suc, List, [], ◌∷◌, length, drop, refl, arith, Bool, true, false, subst, ◌∙◌, Some}
use Rattle.std.proofs.lemmas.List.{length-map}
use Rattle.std.specs.Prelude.{map, slice_index_or}
use Rattle.al_expr_grammar.specs.declared.parser.ParseError.TheVariants as error
use Rattle.al_expr_grammar.specs.Parsed.{IsVerdict}
use Rattle.al_base.specs.declared.faults.Span.{Span}
use Rattle.al_base.specs.declared.faults.Fault.{Fault}
use Rattle.al_expr_grammar.specs.declared.token.TokenKind.{TokenKind}
use Rattle.al_expr_grammar.specs.declared.token.Token.{Token}
use Rattle.al_expr_grammar.specs.Lexeme.{kind_of, kinds, seen}
use Rattle.al_expr_grammar.specs.Refusal.{fault_at}
use Rattle.al_expr_grammar.specs.Table.{Verdict, Unexpected, TooDeep, Mode, E, O, N, Frame, Transition, Stuck, Go, Deeper, step, onward, finish, scan, verdict_of}

-- the verdict's fault is at one of this many tokens
abbrev pub LiesIn : ℕ → Verdict → Type 0
LiesIn len (Unexpected left) = (0 < left) × (left ≤ len)
LiesIn len (TooDeep left) = (0 < left) × (left ≤ len)
LiesIn len _ = Unit {0}

pub at_end : (m : Mode) (st : List Frame) → LiesIn 0 (finish m st)
at_end O [] = tt
at_end O (f ∷ st) = tt
at_end N [] = tt
at_end N (f ∷ st) = tt
at_end _ st = tt

one_more : (len : ℕ) (v : Verdict) → LiesIn len v → LiesIn (suc len) v
one_more len (Unexpected n) h = (h.0, omega (arith, h.1))
one_more len (TooDeep n) h = (h.0, omega (arith, h.1))
one_more len _ h = tt

pub lies_on : (o : Transition) (room : Bool) (len : ℕ) (go : Mode → ℕ → List Frame → Verdict)
    → ((m : Mode) (k : ℕ) (st : List Frame) → LiesIn len (go m k st)) → LiesIn (suc len) (onward o room (suc len) go)
lies_on Stuck room len go f = (omega arith, omega arith)
lies_on (Go m k st) room len go f = one_more len (go m k st) (f m k st)
lies_on (Deeper m k st) true len go f = one_more len (go m k st) (f m k st)
lies_on (Deeper m k st) false len go f = (omega arith, omega arith)

pub lies_in : (ts : List TokenKind) (m : Mode) (k : ℕ) (st : List Frame) → LiesIn (length ts) (scan m k st ts)
lies_in [] m k st = at_end m st
lies_in (t ∷ ts) m k st = lies_on (step m k st t) _ (length ts) _ (λ m' k' st'. lies_in ts m' k' st')

pub verdict_lies : (ts : List Token) (v : Verdict) → verdict_of (kinds (map seen ts)) ≡ v → LiesIn (length ts) v
verdict_lies ts v e =
    let same : length (kinds (map seen ts)) ≡ length ts = length-map (map seen ts) kind_of ∙ length-map ts seen in
    subst (λ n. LiesIn n v) same (subst (LiesIn (length (kinds (map seen ts)))) e (lies_in (kinds (map seen ts)) E 0 []))

-- the parser's fault is at one of the tokens, or at their end
pub unexpected_within : (ts : List Token) (left : ℕ) → IsVerdict (error.Unexpected left) (verdict_of (kinds (map seen ts))) → left ≤ length ts
unexpected_within ts zero v = omega arith
unexpected_within ts (suc n) v = (verdict_lies ts (Unexpected (suc n)) v).1

pub is_unexpected : (v : Verdict) (left : ℕ) → 0 < left → IsVerdict (error.Unexpected left) v → v ≡ Unexpected left
is_unexpected v zero some h = absurd (omega arith)
is_unexpected v (suc n) some h = h

-- The fault at the token with index i.
pub fault_at_token : (make : Span → List ℕ → Fault) (ts : List Token) (i : ℕ) (t : Token) → i < length ts
    → fault_at make (drop i (map seen ts)) ≡ Some (make (slice_index_or ts i t).span (slice_index_or ts i t).text.now)
fault_at_token make [] i t h = absurd (omega (arith, h))
fault_at_token make (u ∷ ts) zero t h = refl
fault_at_token make (u ∷ ts) (suc i) t h = fault_at_token make ts i t (omega (arith, h))
