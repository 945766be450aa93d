-- One iteration of the loop that reads tokens.
use Rattle.std.proofs.Common.{◌≡◌, ◌≤◌, ◌<◌, ◌-◌, ℕ, zero, suc, ◌+◌, List, [], ◌∷◌, ◌++◌, length, drop, take, refl, sym, ap, ◌∙◌, arith, append_assoc, subst}
use Rattle.std.proofs.Common.{append-nil, length-drop}
use Rattle.std.specs.Prelude.{slice_index}
use Rattle.std.specs.Str.{IsUtf8, IsCharBoundary}
use Rattle.std.proofs.lemmas.Str.{IsCharBoundary-after_ascii}
use Rattle.al_expr_grammar.specs.declared.token.TokenKind.{TokenKind}
use Rattle.al_expr_grammar.specs.declared.lexer.Read.TheVariants.{Blank, Token, BadCharacter, OpenText}
use Rattle.al_expr_grammar.specs.Lexeme.{Lexeme, lexeme}
use Rattle.al_expr_grammar.specs.Tokens.{Lexed, AllRead, Bad, Unclosed, character_span, read, then_token, tokens_of, tokens_within, with_first}
use Rattle.al_base.specs.Spans.{span}

-- prepends the tokens that were read
abbrev pub after : List Lexeme → Lexed → Lexed
after front (AllRead ts) = AllRead (front ++ ts)
after front other = other

-- the tokens `front` of the content were read, and the bytes from offset `at` remain
pub record AreRead (content : List ℕ) (front : List Lexeme) (at : ℕ) (bs : List ℕ) : Type 0 where
  pub fuel : ℕ
  pub enough : length bs ≤ fuel
  pub so_far : tokens_of content ≡ after front (tokens_within fuel at bs)

after_one : (front : List Lexeme) (t : Lexeme) (r : Lexed) → after front (then_token t r) ≡ after (front ++ t ∷ []) r
after_one front t (AllRead ts) = ap AllRead (sym (append_assoc front (t ∷ []) ts))
after_one front t (Bad n) = refl
after_one front t Unclosed = refl

nothing_left : (n at : ℕ) → tokens_within n at [] ≡ AllRead []
nothing_left zero at = refl
nothing_left (suc n) at = refl

pub all_read : (content : List ℕ) (front : List Lexeme) (at : ℕ) (bs : List ℕ) → AreRead content front at bs → length bs ≡ 0 → tokens_of content ≡ AllRead front
all_read content front at [] r h = r.so_far ∙ ap (after front) (nothing_left r.fuel at) ∙ ap AllRead (append-nil front)
all_read content front at (b ∷ bs) r h = absurd (omega (arith, h))

-- by the first token, blank or fault of the bytes
by_first : (n at : ℕ) (bs : List ℕ) → 0 < length bs → length bs ≤ n → (m : ℕ) × (n ≡ suc m) × (tokens_within n at bs ≡ with_first (tokens_within m) (read bs) at bs)
by_first n at [] some h = absurd (omega (arith, some))
by_first zero at (b ∷ bs) some h = absurd (omega (arith, h))
by_first (suc m) at (b ∷ bs) some h = (m, refl, refl)

module _ (content : List ℕ) (front : List Lexeme) (at : ℕ) (bs : List ℕ) (r : AreRead content front at bs) (some : 0 < length bs) where
  first : (m : ℕ) × (r.fuel ≡ suc m) × (tokens_of content ≡ after front (with_first (tokens_within m) (read bs) at bs))
  first = let f = by_first r.fuel at bs some r.enough in (f.0, f.1, r.so_far ∙ ap (after front) f.2)

  pub past_blank : Blank ≡ read bs → AreRead content front (at + 1) (drop 1 bs)
  past_blank e =
      let f = first in record {
        fuel = f.0;
        enough = omega (arith, r.enough, f.1, length-drop 1 bs);
        so_far = f.2 ∙ ap (λ x. after front (with_first (tokens_within f.0) x at bs)) (sym e);
      }

  pub past_token : (k : TokenKind) (n : ℕ) → Token k n ≡ read bs → 0 < n → AreRead content (front ++ lexeme k (take n bs) (span at (at + n)) ∷ []) (at + n) (drop n bs)
  past_token k n e long =
      let f = first in record {
        fuel = f.0;
        enough = omega (arith, r.enough, f.1, long, length-drop n bs);
        so_far = f.2 ∙ ap (λ x. after front (with_first (tokens_within f.0) x at bs)) (sym e) ∙ after_one front _ (tokens_within f.0 (at + n) (drop n bs));
      }

  pub stops_at : BadCharacter ≡ read bs → tokens_of content ≡ Bad (character_span at bs)
  stops_at e = let f = first in f.2 ∙ ap (λ x. after front (with_first (tokens_within f.0) x at bs)) (sym e)

  pub stays_open : OpenText ≡ read bs → tokens_of content ≡ Unclosed
  stays_open e = let f = first in f.2 ∙ ap (λ x. after front (with_first (tokens_within f.0) x at bs)) (sym e)

-- An ASCII byte is followed by a character boundary.
pub ends_char : (bs : List ℕ) (n : ℕ) → IsUtf8 bs → 0 < n → n ≤ length bs → slice_index bs (n - 1) < 128 → IsCharBoundary bs n
ends_char bs n u some within h =
    let e : (n - 1) + 1 ≡ n = omega arith in
    subst (IsCharBoundary bs) e (IsCharBoundary-after_ascii bs (n - 1) u (omega arith) h)
