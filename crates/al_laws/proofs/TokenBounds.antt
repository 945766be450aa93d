-- The tokens of a content with two bounds that suffice are the same: each takes at least one byte.
use Rattle.std.proofs.Common.{◌≡◌, ℕ, zero, suc, ◌+◌, ◌<◌, ◌≤◌, List, [], ◌∷◌, length, drop, take, refl, sym, ap, ◌∙◌, arith, length-drop}
use Rattle.std.proofs.Common.{nat_eq, ◌||◌, Option, Some, None}
use Rattle.std.specs.Char.{is_ascii_digit}
use Rattle.std.specs.List.{prefix_len, starts_with}
use Rattle.std.specs.Option.{option_map_or}
use Rattle.std.specs.Prelude.{find}
use Rattle.al_base.specs.Ascii.{is_sign}
use Rattle.al_base.specs.Spans.{span}
use Rattle.al_scalar.proofs.OffsetLemmas.{choose}
use Rattle.al_expr_grammar.specs.declared.token.TokenKind.{TokenKind}
use Rattle.al_expr_grammar.specs.declared.token.TokenKind.TheVariants.{Number, Text}
use Rattle.al_expr_grammar.specs.Lexeme.{lexeme}
use Rattle.al_expr_grammar.specs.Tokens.{AllRead, begins_name, goes_on_name, is_blank_byte, is_quote, marks, number_len, number_read, read}
use Rattle.al_expr_grammar.specs.Tokens.{text_read, text_tail, then_token, tokens_of, tokens_within, with_first, word_kind}
use Rattle.al_expr_grammar.proofs.Fitting.{Fits}
use Rattle.al_expr_grammar.proofs.Reading.{read_fits}

none-left : (n at : ℕ) → tokens_within n at [] ≡ AllRead []
none-left zero at = refl
none-left (suc n) at = refl

by-option : {X A : Type 0} (P : A → Type 0) (f : X → A) (d : A) (o : Option X) → ((x : X) → P (f x)) → P d → P (option_map_or f o d)
by-option P f d (Some x) h k = h x
by-option P f d None h k = k

-- two functions agree at a value with a property
abbrev Follows : {A B : Type 0} → (A → Type 0) → (A → B) → (A → B) → A → Type 0
Follows F f g x = F x → f x ≡ g x

-- the tokens of as many bytes as both bounds allow
abbrev AgreeBelow : ℕ → ℕ → Type 0
AgreeBelow n m = (at : ℕ) (bs : List ℕ) → length bs ≤ n → length bs ≤ m → tokens_within n at bs ≡ tokens_within m at bs

module _ (n m at b : ℕ) (bs : List ℕ) (h : length bs ≤ n) (k : length bs ≤ m) (later : AgreeBelow n m) where
  token-agrees : (kind : TokenKind) (len : ℕ) → 0 < len
      → then_token (lexeme kind (take len (b ∷ bs)) (span at (at + len))) (tokens_within n (at + len) (drop len (b ∷ bs)))
      ≡ then_token (lexeme kind (take len (b ∷ bs)) (span at (at + len))) (tokens_within m (at + len) (drop len (b ∷ bs)))
  token-agrees kind len some =
      let rest = length-drop len (b ∷ bs) in
      ap (then_token (lexeme kind (take len (b ∷ bs)) (span at (at + len))))
      (later (at + len) (drop len (b ∷ bs)) (omega (arith, some, rest, h)) (omega (arith, some, rest, k)))

  text-agrees : (o : Option ℕ) → Fits (b ∷ bs) (text_read o)
      → with_first (tokens_within n) (text_read o) at (b ∷ bs) ≡ with_first (tokens_within m) (text_read o) at (b ∷ bs)
  text-agrees None f = refl
  text-agrees (Some i) f = token-agrees Text (1 + i) f.0

  number-agrees : (i : ℕ) → Fits (b ∷ bs) (number_read i)
      → with_first (tokens_within n) (number_read i) at (b ∷ bs) ≡ with_first (tokens_within m) (number_read i) at (b ∷ bs)
  number-agrees zero f = refl
  number-agrees (suc i) f = token-agrees Number (suc i) f.0

  -- by the tests of `read`
  first-agrees : with_first (tokens_within n) (read (b ∷ bs)) at (b ∷ bs) ≡ with_first (tokens_within m) (read (b ∷ bs)) at (b ∷ bs)
  first-agrees =
      let len = prefix_len goes_on_name (b ∷ bs) in
      let P = Follows (Fits (b ∷ bs)) (λ r. with_first (tokens_within n) r at (b ∷ bs)) (λ r. with_first (tokens_within m) r at (b ∷ bs)) in
      choose P (is_blank_byte b) (λ _ f. later (at + 1) bs h k)
      (λ _. choose P (begins_name b) (λ _ f. token-agrees (word_kind (take len (b ∷ bs))) len f.0)
      (λ _. choose P (is_quote b) (λ _. text-agrees (text_tail bs))
      (λ _. choose P (is_ascii_digit b || is_sign b) (λ _. number-agrees (number_len (b ∷ bs)))
      (λ _. by-option P _ _ (find (λ m. starts_with nat_eq (b ∷ bs) m.0) marks) (λ x f. token-agrees x.1 (length x.0) f.0) (λ f. refl)))))
      (read_fits (b ∷ bs))

tokens-agree : (n m : ℕ) → AgreeBelow n m
tokens-agree n m at [] h k = none-left n at ∙ sym (none-left m at)
tokens-agree zero m at (b ∷ bs) h k = absurd (omega (arith, h))
tokens-agree (suc n) zero at (b ∷ bs) h k = absurd (omega (arith, k))
tokens-agree (suc n) (suc m) at (b ∷ bs) h k =
    first-agrees n m at b bs (omega (arith, h)) (omega (arith, k)) (λ from rest i j. tokens-agree n m from rest i j)

pub any-tokens : (bound : ℕ) (content : List ℕ) → length content ≤ bound → tokens_within bound 0 content ≡ tokens_of content
any-tokens bound content h = tokens-agree bound (length content) 0 content h (omega arith)
