-- A token is within the bytes, and its last byte is ASCII, so it ends at a character boundary.
use Rattle.std.proofs.Common.{◌≡◌, ◌<◌, ◌≤◌, ◌+◌, ◌-◌, ℕ, zero, suc, List, [], ◌∷◌, length, length-drop, add-zero, inl, inr, ◌⊎◌, drop}
use Rattle.std.proofs.Common.{refl, subst, arith, Bool, true, false, cond, nat_eq, nat_lt, max, Option, Some, None}
use Rattle.std.proofs.lemmas.Bool.{and_parts, cond_both, eqb-true}
use Rattle.std.proofs.lemmas.Bool.Decides.{nat_tests}
use Rattle.std.proofs.lemmas.List.{get_or-drop}
use Rattle.std.proofs.lemmas.List.Sums.{prefix_len_passes, prefix_len-le-length}
use Rattle.std.specs.Prelude.{codes, slice_index}
use Rattle.std.specs.Char.{is_ascii_digit, is_ascii_hexdigit}
use Rattle.std.specs.List.{list_all, prefix_len, starts_with}
use Rattle.al_base.specs.FirstBytes.{begins_with, first_is}
use Rattle.al_expr_grammar.specs.Tokens.{begins_name, goes_on_name, with_digits, hex_len, fraction_len}
use Rattle.al_base.specs.Ascii.{is_sign}
use Rattle.al_expr_grammar.specs.Tokens.{exponent_len, decimal_tail, decimal_len, unsigned_len, number_len, add_to, text_tail}
use Rattle.al_expr_grammar.proofs.TextTails.{after_byte, tail_from, tail_is}
use Rattle.al_expr_grammar.specs.declared.lexer.Read.{Read}
use Rattle.al_expr_grammar.specs.declared.lexer.Read.TheVariants.{Blank, Token}
use Rattle.al_expr_grammar.specs.Tokens.{text_read, number_read, name_read}

-- A token is at least one byte long and within the bytes. Its last byte is ASCII, so it ends at a character boundary; so does a blank.
abbrev pub Fits : List ℕ → Read → Type 0
Fits bs Blank = slice_index bs 0 < 128
Fits bs (Token k n) = (0 < n) × (n ≤ length bs) × (slice_index bs (n - 1) < 128)
Fits bs _ = Unit {0}

-- The first n bytes are within the bytes, and the last one of them is ASCII, if n isn't 0.
pub record EndsRule (bs : List ℕ) (n : ℕ) : Type 0 where
  pub within : n ≤ length bs
  pub last : 0 < n → slice_index bs (n - 1) < 128

nothing : (bs : List ℕ) → EndsRule bs 0
nothing bs = record { within = omega arith; last = λ h. absurd (omega arith) }

max_is : (x y : ℕ) → (max x y ≡ x) ⊎ (max x y ≡ y)
max_is x y = grind arith

-- one part after another
further : (bs : List ℕ) (k m : ℕ) → EndsRule bs k → EndsRule (drop k bs) m → EndsRule bs (k + m)
further bs k zero a b = rw add-zero a
further bs k (suc m) a b =
    let within : suc m ≤ length (drop k bs) = b.within in
    let e : (k + suc m) - 1 ≡ k + (suc m - 1) = omega arith in
    let last : slice_index (drop k bs) (suc m - 1) < 128 = b.last (omega arith) in
    let far : k ≤ length bs = a.within in
    record { within = omega (arith, length-drop k bs); last = λ h. rw (e, ← get_or-drop k bs (suc m - 1) 0) last }

digit_ascii : (b : ℕ) → is_ascii_digit b ≡ true → b < 128
digit_ascii b h = grind (arith, nat_tests)

hex_ascii : (b : ℕ) → is_ascii_hexdigit b ≡ true → b < 128
hex_ascii b h = grind (arith, nat_tests)

name_ascii : (b : ℕ) → goes_on_name b ≡ true → b < 128
name_ascii b h = grind (arith, nat_tests)

name_goes_on : (b : ℕ) → begins_name b ≡ true → goes_on_name b ≡ true
name_goes_on b h = grind (arith, nat_tests)

run_ends : (p : ℕ → Bool) (bs : List ℕ) → ((b : ℕ) → p b ≡ true → b < 128) → EndsRule bs (prefix_len p bs)
run_ends p bs f = record {
  within = prefix_len-le-length p bs;
  last = λ h. f _ (prefix_len_passes p bs (prefix_len p bs - 1) 0 (omega arith));
}

-- a part that is there only if it has digits
with_ends : (bs : List ℕ) (lead d : ℕ) → lead ≤ length bs → EndsRule (drop lead bs) d → EndsRule bs (with_digits lead d)
with_ends bs lead zero h e = nothing bs
with_ends bs lead (suc d) h e =
    let within : suc d ≤ length (drop lead bs) = e.within in
    let i : (lead + suc d) - 1 ≡ lead + (suc d - 1) = omega arith in
    let last : slice_index (drop lead bs) (suc d - 1) < 128 = e.last (omega arith) in
    record { within = omega (arith, length-drop lead bs); last = λ h. rw (i, ← get_or-drop lead bs (suc d - 1) 0) last }

one_byte : (p : ℕ → Bool) (bs : List ℕ) → first_is p bs ≡ true → 1 ≤ length bs
one_byte p [] h = absurd cc
one_byte p (b ∷ bs) h = omega arith

begun : (c : ℕ) (bs : List ℕ) → begins_with c bs ≡ true → 1 ≤ length bs
begun c [] h = absurd cc
begun c (b ∷ bs) h = omega arith

-- a text of ASCII bytes that the bytes begin with
pub text_ends : (text bs : List ℕ) → starts_with nat_eq bs text ≡ true → list_all (λ b. nat_lt b 128) text ≡ true → EndsRule bs (length text)
text_ends [] bs h a = nothing bs
text_ends (c ∷ text) [] h a = absurd cc
text_ends (c ∷ text) (b ∷ bs) h a =
    let h' = and_parts (nat_eq c b) _ h in
    let a' = and_parts (nat_lt c 128) _ a in
    let low : b < 128 = grind (arith, nat_tests, h'.0, a'.0) in
    let long : 1 + length text ≡ suc (length text) = omega arith in
    subst (EndsRule (b ∷ bs)) long (further (b ∷ bs) 1 (length text) (record { within = omega arith; last = λ h. low }) (text_ends text bs h'.1 a'.1))

fraction_ends : (bs : List ℕ) → EndsRule bs (fraction_len bs)
fraction_ends bs = cond_both _ _ _ (EndsRule bs) (λ h. with_ends bs 1 _ (begun _ bs h) (run_ends is_ascii_digit (drop 1 bs) digit_ascii)) (λ h. nothing bs)

signed_ends : (bs : List ℕ) (sign : Bool) → first_is is_sign (drop 1 bs) ≡ sign → 1 ≤ length bs
    → EndsRule bs (with_digits (cond sign 2 1) (prefix_len is_ascii_digit (drop (cond sign 2 1) bs)))
signed_ends bs true s h = with_ends bs 2 _ (let n = one_byte _ (drop 1 bs) s in omega (arith, n, length-drop 1 bs)) (run_ends is_ascii_digit (drop 2 bs) digit_ascii)
signed_ends bs false s h = with_ends bs 1 _ h (run_ends is_ascii_digit (drop 1 bs) digit_ascii)

exponent_ends : (bs : List ℕ) → EndsRule bs (exponent_len bs)
exponent_ends bs = cond_both _ _ _ (EndsRule bs) (λ h. signed_ends bs (first_is is_sign (drop 1 bs)) refl (one_byte _ bs h)) (λ h. nothing bs)

hex_ends : (bs : List ℕ) → EndsRule bs (hex_len bs)
hex_ends bs = cond_both _ _ _ (EndsRule bs) (λ h. with_ends bs 2 _ (text_ends (codes "0x") bs h refl).within (run_ends is_ascii_hexdigit (drop 2 bs) hex_ascii)) (λ h. nothing bs)

tail_ends : (bs : List ℕ) → EndsRule bs (decimal_tail bs)
tail_ends bs = further bs (fraction_len bs) _ (fraction_ends bs) (exponent_ends (drop (fraction_len bs) bs))

decimal_ends : (bs : List ℕ) → EndsRule bs (decimal_len bs)
decimal_ends bs =
    cond_both _ _ _ (EndsRule bs)
    (λ h. further bs (prefix_len is_ascii_digit bs) _ (run_ends is_ascii_digit bs digit_ascii) (tail_ends (drop (prefix_len is_ascii_digit bs) bs)))
    (λ h. nothing bs)

greater : (bs : List ℕ) (x y : ℕ) → EndsRule bs x → EndsRule bs y → EndsRule bs (max x y)
greater bs x y a b = elim (max_is x y) [ inl e ↦ rw e a | inr e ↦ rw e b ]

unsigned_ends : (bs : List ℕ) → EndsRule bs (unsigned_len bs)
unsigned_ends bs = greater bs (hex_len bs) (decimal_len bs) (hex_ends bs) (decimal_ends bs)

number_ends : (bs : List ℕ) → EndsRule bs (number_len bs)
number_ends bs = cond_both _ _ _ (EndsRule bs) (λ h. with_ends bs 1 _ (one_byte _ bs h) (unsigned_ends (drop 1 bs))) (λ h. unsigned_ends bs)

number_fits_at : (bs : List ℕ) (n : ℕ) → EndsRule bs n → Fits bs (number_read n)
number_fits_at bs zero e = tt
number_fits_at bs (suc n) e = (omega arith, e.within, e.last (omega arith))

pub number_fits : (bs : List ℕ) → Fits bs (number_read (number_len bs))
number_fits bs = number_fits_at bs (number_len bs) (number_ends bs)

pub name_fits : (b : ℕ) (bs : List ℕ) → begins_name b ≡ true → Fits (b ∷ bs) (name_read (b ∷ bs))
name_fits b bs h =
    let e = run_ends goes_on_name (b ∷ bs) name_ascii in
    let g = name_goes_on b h in
    let some : 0 < prefix_len goes_on_name (b ∷ bs) = rw g (omega arith) in
    (some, e.within, e.last some)

-- The rest of a text is within the bytes and ends with a quote. It isn't empty, unless a quote was the last byte before it.
abbrev TailEnds : Bool → List ℕ → Option ℕ → Type 0
TailEnds quote bs None = Unit {0}
TailEnds quote bs (Some n) = (n ≤ length bs) × (0 < n → slice_index bs (n - 1) ≡ 39) × (quote ≡ false → 0 < n)

one_more : (quote q : Bool) (b : ℕ) (bs : List ℕ) (o : Option ℕ) → (q ≡ true → b ≡ 39) → TailEnds q bs o → TailEnds quote (b ∷ bs) (add_to 1 o)
one_more quote q b bs None f e = tt
one_more quote true b bs (Some zero) f e = (omega arith, (λ h. f refl), (λ h. omega arith))
one_more quote false b bs (Some zero) f e = absurd (let h : 0 < 0 = e.2 refl in omega arith)
one_more quote q b bs (Some (suc m)) f e =
    let i : (1 + suc m) - 1 ≡ suc m = omega arith in
    let j : suc m - 1 ≡ m = omega arith in
    let last : slice_index bs (suc m - 1) ≡ 39 = e.1 (omega arith) in
    (omega (arith, e.0), (λ h. rw i (rw j at last)), (λ h. omega arith))

stays : (quote t : Bool) (b : ℕ) (bs : List ℕ) → (t ≡ true → b ≡ 39) → ((q : Bool) → TailEnds q bs (tail_from q bs)) → TailEnds quote (b ∷ bs) (after_byte quote t (λ q. tail_from q bs))
stays false t b bs f g = one_more false t b bs (tail_from t bs) f (g t)
stays true true b bs f g = one_more true false b bs (tail_from false bs) (λ e. absurd cc) (g false)
stays true false b bs f g = (omega arith, (λ h. absurd (omega arith)), (λ e. absurd cc))

tail_ends_at : (bs : List ℕ) (quote : Bool) → TailEnds quote bs (tail_from quote bs)
tail_ends_at [] false = tt
tail_ends_at [] true = (omega arith, (λ h. absurd (omega arith)), (λ e. absurd cc))
tail_ends_at (b ∷ bs) quote = stays quote (nat_eq b 39) b bs (eqb-true b 39) (λ q. tail_ends_at bs q)

text_fits_at : (bs : List ℕ) (o : Option ℕ) → TailEnds false bs o → Fits (39 ∷ bs) (text_read o)
text_fits_at bs None e = tt
text_fits_at bs (Some n) e =
    let some : 0 < n = e.2 refl in
    let i : (1 + n) - 1 ≡ suc (n - 1) = omega arith in
    let last : slice_index bs (n - 1) ≡ 39 = e.1 some in
    (omega arith, omega (arith, e.0), rw (i, last) (omega arith))

pub text_fits : (bs : List ℕ) → Fits (39 ∷ bs) (text_read (text_tail bs))
text_fits bs = text_fits_at bs (text_tail bs) (subst (TailEnds false bs) (tail_is bs) (tail_ends_at bs false))
