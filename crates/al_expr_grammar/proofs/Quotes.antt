-- A content with an unclosed text has a quote.
use Rattle.std.proofs.Common.{◌≡◌, ◌≢◌, ◌+◌, ℕ, zero, suc, List, [], ◌∷◌, length, drop, refl, sym, ◌∙◌, true, Option, Some, None}
use Rattle.std.proofs.lemmas.Bool.{cond_both}
use Rattle.std.specs.Char.{is_ascii_digit}
use Rattle.std.specs.Prelude.{◌||◌, find, nat_eq, option_map}
use Rattle.std.specs.List.{starts_with}
use Rattle.std.specs.Option.{option_map_or, option_or}
use Rattle.al_expr_grammar.specs.declared.lexer.Read.{Read}
use Rattle.al_expr_grammar.specs.declared.lexer.Read.TheVariants.{Blank, Token, BadCharacter, OpenText}
use Rattle.al_expr_grammar.specs.declared.token.TokenKind.{TokenKind}
use Rattle.al_expr_grammar.specs.Lexeme.{Lexeme}
use Rattle.al_expr_grammar.specs.Tokens.{Lexed, AllRead, Bad, Unclosed, read, mark, marks, number_read, number_len, tokens_of}
use Rattle.al_expr_grammar.specs.Tokens.{begins_name, is_blank_byte, is_quote, last_quote, name_read, text_read, text_tail, then_token, tokens_within, with_first}
use Rattle.al_base.specs.Ascii.{is_sign}

number_apart : (n : ℕ) → number_read n ≢ OpenText
number_apart zero e = cc
number_apart (suc n) e = cc

found_apart : (o : Option (List ℕ × TokenKind)) → option_map_or (λ m. Token m.1 (length m.0)) o BadCharacter ≢ OpenText
found_apart None e = cc
found_apart (Some m) e = cc

mark_apart : (bs : List ℕ) → mark bs ≢ OpenText
mark_apart bs = found_apart (find (λ m. starts_with nat_eq bs m.0) marks)

begins_with_quote : (b : ℕ) (bs : List ℕ) → read (b ∷ bs) ≡ OpenText → is_quote b ≡ true
begins_with_quote b bs =
    let P : Read → Type 0 = λ r. r ≡ OpenText → is_quote b ≡ true in
    cond_both (is_blank_byte b) Blank _ P (λ h e. absurd cc)
    (λ n. cond_both (begins_name b) (name_read (b ∷ bs)) _ P (λ h e. absurd cc)
    (λ n. cond_both (is_quote b) (text_read (text_tail bs)) _ P (λ h e. h)
    (λ n. cond_both (is_ascii_digit b || is_sign b) (number_read (number_len (b ∷ bs))) (mark (b ∷ bs)) P
    (λ h e. absurd (number_apart (number_len (b ∷ bs)) e)) (λ h e. absurd (mark_apart (b ∷ bs) e)))))

some_second : (o : Option ℕ) (n : ℕ) → option_or o (Some n) ≢ None
some_second None n = λ e. cc
some_second (Some m) n = λ e. cc

more_tokens : (t : Lexeme) (l : Lexed) → then_token t l ≡ Unclosed → l ≡ Unclosed
more_tokens t (AllRead ts) e = absurd cc
more_tokens t (Bad s) e = e
more_tokens t Unclosed e = e

at_first : (b : ℕ) (bs : List ℕ) → is_quote b ≡ true → last_quote (b ∷ bs) ≢ None
at_first b bs h = rw h (some_second (option_map suc (last_quote bs)) 0)

after_first : (o p : Option ℕ) → o ≢ None → option_or (option_map suc o) p ≢ None
after_first None p f = absurd (f refl)
after_first (Some n) p f = λ e. cc

further : (n : ℕ) (bs : List ℕ) → last_quote (drop n bs) ≢ None → last_quote bs ≢ None
further zero bs h = h
further (suc n) [] h = h
further (suc n) (b ∷ bs) h = after_first (last_quote bs) _ (further n bs h)

-- The induction step, by what the bytes begin with.
leads : (n : ℕ) (r : Read) (at b : ℕ) (bs : List ℕ) → ((from : ℕ) (rest : List ℕ) → tokens_within n from rest ≡ Unclosed → last_quote rest ≢ None)
    → (r ≡ OpenText → is_quote b ≡ true) → with_first (tokens_within n) r at (b ∷ bs) ≡ Unclosed → last_quote (b ∷ bs) ≢ None
leads n Blank at b bs there here e = further 1 (b ∷ bs) (there (at + 1) bs e)
leads n (Token k m) at b bs there here e = further m (b ∷ bs) (there (at + m) (drop m (b ∷ bs)) (more_tokens _ _ e))
leads n BadCharacter at b bs there here e = absurd cc
leads n OpenText at b bs there here e = at_first b bs (here refl)

has_quote : (n at : ℕ) (bs : List ℕ) → tokens_within n at bs ≡ Unclosed → last_quote bs ≢ None
has_quote zero at bs e = absurd cc
has_quote (suc n) at [] e = absurd cc
has_quote (suc n) at (b ∷ bs) e = leads n (read (b ∷ bs)) at b bs (has_quote n) (begins_with_quote b bs) e

none_of : (o : Option ℕ) → ((n : ℕ) → o ≡ Some n → ⊥) → o ≡ None
none_of None f = refl
none_of (Some n) f = absurd (f n refl)

-- So a search for the last quote finds one.
pub quote_found : (content : List ℕ) (o : Option ℕ) → tokens_of content ≡ Unclosed → o ≡ last_quote content → ((n : ℕ) → o ≡ Some n → ⊥) → ⊥
quote_found content o u e f = has_quote (length content) 0 content u (sym e ∙ none_of o f)
