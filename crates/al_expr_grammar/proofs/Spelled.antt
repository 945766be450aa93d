-- A content without a fault spells exactly one tree, which is the tree of the content.
use Rattle.std.proofs.Common.{◌≡◌, ◌<◌, ◌≤◌, ℕ, List, [], ◌∷◌, length, refl, sym, ap, ◌∙◌, subst, arith, Option, Some, None, Bool, true, false, cond, nat_lt, drop, ◌-◌}
use Rattle.std.proofs.lemmas.List.{length-drop}
use Rattle.al_base.specs.declared.faults.Fault.{Fault}
use Rattle.al_base.specs.declared.faults.Span.{Span}
use Rattle.al_expr_grammar.specs.Lexeme.{Lexeme, lexeme, kinds}
use Rattle.al_expr_grammar.specs.Tokens.{Lexed, AllRead, Bad, Unclosed, last_quote, tokens_of}
use Rattle.al_expr_grammar.specs.Tree.{Tree}
use Rattle.al_expr_grammar.specs.Building.{tree_of_content, tree_of_tokens}
use Rattle.al_expr_grammar.specs.Grammar.{IsTreeOf}
use Rattle.al_expr_grammar.specs.Refusal.{Spells, fault_at, fault_of_content, fault_of_tokens, fault_of_verdict, open_text}
use Rattle.al_expr_grammar.specs.Table.{Verdict, Fine, Early, Unexpected, TooDeep, E, verdict_of}
use Rattle.al_expr_grammar.proofs.Built.{builds_tree}
use Rattle.al_expr_grammar.proofs.Left.{LiesIn, lies_in}
use Rattle.al_expr_grammar.proofs.Quotes.{quote_found}
use Rattle.al_expr_grammar.proofs.Rules.{same_length}
use Rattle.al_expr_grammar.proofs.Shape.{Agrees, scan_shape, shape}
use Rattle.al_expr_grammar.proofs.Total.{some_tree}

pub found : (ts : List Lexeme) → verdict_of (kinds ts) ≡ Fine → (t : Tree) × IsTreeOf t ts
found ts e = some_tree ts (sym (subst (λ v. Agrees v (shape E [] (kinds ts))) e (scan_shape E 0 [] (kinds ts))))

none_at : (make : Span → List ℕ → Fault) (ts : List Lexeme) → fault_at make ts ≡ None → length ts ≡ 0
none_at make [] e = refl
none_at make (lexeme k b s ∷ ts) e = absurd cc

some_left : (n : ℕ) (make : Span → List ℕ → Fault) (ts : List Lexeme) → (0 < n) × (n ≤ length (kinds ts)) → fault_at make (drop (length ts - n) ts) ≡ None → ⊥
some_left n make ts left e =
    let none = none_at make (drop (length ts - n) ts) e in
    let same : length (drop (length ts - n) ts) ≡ length ts - (length ts - n) = length-drop (length ts - n) ts in
    omega (arith, left.0, left.1, none, same, same_length ts)

fine_of : (len : ℕ) (ts : List Lexeme) (v : Verdict) → LiesIn (length (kinds ts)) v → fault_of_verdict len ts v ≡ None → v ≡ Fine
fine_of len ts Fine left e = refl
fine_of len ts Early left e = absurd cc
fine_of len ts (Unexpected n) left e = absurd (some_left n _ ts left e)
fine_of len ts (TooDeep n) left e = absurd (some_left n _ ts left e)

-- If the verdict gives no fault, it is `Fine`.
are_fine : (len : ℕ) (ts : List Lexeme) → fault_of_verdict len ts (verdict_of (kinds ts)) ≡ None → verdict_of (kinds ts) ≡ Fine
are_fine len ts e = fine_of len ts (verdict_of (kinds ts)) (lies_in (kinds ts) E 0 []) e

not_long : (b : Bool) (f : Fault) (rest : Option Fault) → cond b (Some f) rest ≡ None → rest ≡ None
not_long true f rest e = absurd cc
not_long false f rest e = e

no_quote : (quote : Option ℕ) → open_text quote ≡ None → (n : ℕ) → quote ≡ Some n → ⊥
no_quote None e n f = absurd cc
no_quote (Some q) e n f = absurd cc

-- The tree of a content is the one that it spells.
pub spelled : (content : List ℕ) (t : Tree) → Spells content t → tree_of_content content ≡ t
spelled content t s = ap tree_of_tokens s.reads ∙ builds_tree s.tokens t s.derives

module _ (content : List ℕ) (t : Tree) where
  spelled_by : (l : Lexed) → tokens_of content ≡ l → fault_of_tokens content l ≡ None → tree_of_tokens l ≡ t → Spells content t
  spelled_by (AllRead ts) reads none has =
      let there = found ts (are_fine (length content) ts none) in
      let same : there.0 ≡ t = sym (builds_tree ts there.0 there.1) ∙ has in
      record { tokens = ts; reads = reads; derives = subst (λ u. IsTreeOf u ts) same there.1 }
  spelled_by (Bad s) reads none has = absurd cc
  spelled_by Unclosed reads none has = absurd (quote_found content (last_quote content) reads refl (no_quote (last_quote content) none))

  -- A content without a fault spells its tree.
  pub only_spelled : fault_of_content content ≡ None → tree_of_content content ≡ t → Spells content t
  only_spelled none has =
      spelled_by (tokens_of content) refl (not_long (nat_lt 21000 (length content)) _ (fault_of_tokens content (tokens_of content)) none) has
