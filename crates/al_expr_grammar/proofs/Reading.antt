-- A token is at least one byte long and within the bytes, and its last byte is ASCII, as a blank is.
use Rattle.std.proofs.Common.{◌≡◌, ◌<◌, ◌≤◌, ◌-◌, ℕ, List, [], ◌∷◌, length, refl, sym, subst, arith, Bool, true, false, cond, nat_eq, nat_lt, ◌&&◌, ◌||◌, Option, Some}
use Rattle.std.proofs.lemmas.Bool.{and_parts, cond_both, eqb-true, ltb-true}
use Rattle.std.proofs.lemmas.Bool.Decides.{nat_tests}
use Rattle.std.specs.Char.{is_ascii_digit}
use Rattle.std.specs.List.{list_all, starts_with}
use Rattle.std.specs.Option.{option_map_or}
use Rattle.std.specs.Prelude.{find, slice_index}
use Rattle.al_expr_grammar.specs.declared.lexer.Read.{Read}
use Rattle.al_expr_grammar.specs.declared.lexer.Read.TheVariants.{Blank, Token, BadCharacter}
use Rattle.al_expr_grammar.specs.declared.token.TokenKind.{TokenKind}
use Rattle.al_expr_grammar.specs.Tokens.{begins_name, is_blank_byte, mark, marks, name_read, number_len, number_read}
use Rattle.al_base.specs.Ascii.{is_sign}
use Rattle.al_expr_grammar.specs.Tokens.{read, text_read, text_tail}
use Rattle.al_expr_grammar.proofs.Fitting.{Fits, name_fits, number_fits, text_ends, text_fits}

-- the token of a mark, if one is found
abbrev mark_found : Option (List ℕ × TokenKind) → Read
mark_found o = option_map_or (λ m. Token m.1 (length m.0)) o BadCharacter

-- a mark has a byte, and its bytes are ASCII
abbrev is_plain : List ℕ × TokenKind → Bool
is_plain m = nat_lt 0 (length m.0) && list_all (λ b. nat_lt b 128) m.0

found_fits : (bs : List ℕ) (m : List ℕ × TokenKind) (o : Option (List ℕ × TokenKind)) (t : Bool) → starts_with nat_eq bs m.0 ≡ t → is_plain m ≡ true
    → Fits bs (mark_found o) → Fits bs (mark_found (cond t (Some m) o))
found_fits bs m o true e h f =
    let h' = and_parts (nat_lt 0 (length m.0)) _ h in
    let some = ltb-true 0 (length m.0) h'.0 in
    let ends = text_ends m.0 bs e h'.1 in
    (some, ends.within, ends.last some)
found_fits bs m o false e h f = f

found_in : (bs : List ℕ) (ms : List (List ℕ × TokenKind)) → list_all is_plain ms ≡ true → Fits bs (mark_found (find (λ m. starts_with nat_eq bs m.0) ms))
found_in bs [] h = tt
found_in bs (m ∷ ms) h = let h' = and_parts (is_plain m) _ h in found_fits bs m _ (starts_with nat_eq bs m.0) refl h'.0 (found_in bs ms h'.1)

pub read_fits : (bs : List ℕ) → Fits bs (read bs)
read_fits [] = tt
read_fits (b ∷ bs) =
    let P : Read → Type 0 = Fits (b ∷ bs) in
    cond_both (is_blank_byte b) Blank _ P (λ e. grind (arith, nat_tests))
    (λ n. cond_both (begins_name b) (name_read (b ∷ bs)) _ P (name_fits b bs)
    (λ n. cond_both (nat_eq b 39) (text_read (text_tail bs)) _ P (λ e. subst (λ x. Fits (x ∷ bs) (text_read (text_tail bs))) (sym (eqb-true b 39 e)) (text_fits bs))
    (λ n. cond_both (is_ascii_digit b || is_sign b) (number_read (number_len (b ∷ bs))) (mark (b ∷ bs)) P
    (λ e. number_fits (b ∷ bs)) (λ e. found_in (b ∷ bs) marks refl))))

pub token_fits : (bs : List ℕ) (k : TokenKind) (n : ℕ) → Token k n ≡ read bs → (0 < n) × (n ≤ length bs) × (slice_index bs (n - 1) < 128)
token_fits bs k n e = subst (Fits bs) (sym e) (read_fits bs)

pub blank_fits : (bs : List ℕ) → Blank ≡ read bs → slice_index bs 0 < 128
blank_fits bs e = subst (Fits bs) (sym e) (read_fits bs)
