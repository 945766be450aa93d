-- A text without control bytes is printed as it is; printing by characters and by bytes gives the same.
use Rattle.std.proofs.Common.{◌≡◌, ◌∙◌, inl, inr, ℕ, ◌<◌, ◌≤◌, Bool, true, false, cond, List, [], ◌∷◌, map, refl, subst, sym, ap, arith}
use Rattle.std.proofs.Math.Utf8.{encode, encodes}
use Rattle.std.proofs.lemmas.Bool.{cases_lt}
use Rattle.std.proofs.lemmas.Bool.Decides.{nat_tests}
use Rattle.std.proofs.lemmas.List.{get_or-map, length-map, map-append}
use Rattle.std.proofs.lemmas.List.Elements.{All-head, All-tail}
use Rattle.std.proofs.lemmas.Str.{encode_ascii, encodes-chars}
use Rattle.std.specs.Char.{is_ascii_control}
use Rattle.std.specs.List.{All, AllByRecursion}
use Rattle.std.specs.Prelude.{IsCharBoundary, IsUtf8, MatchOption, None, Option, Some, chars, is_none, length, nat_lt, slice_index}
use Rattle.al_base.specs.Printable.{printable, printable_byte}
use Rattle.al_base.proofs.Elements.{each_either}

-- the byte is no control byte
abbrev pub IsPlain : ℕ → Type 0
IsPlain b = is_ascii_control b ≡ false

pub printable_plain : (xs : List ℕ) → All IsPlain xs → printable xs ≡ xs
printable_plain [] p = refl
printable_plain (x ∷ xs) p =
    let first : is_ascii_control x ≡ false = All-head IsPlain x xs p in
    let rest : printable xs ≡ xs = printable_plain xs (All-tail IsPlain x xs p) in
    rw (first, rest) refl

pub printable_unchanged : (text : List ℕ) (control : Option ℕ) (At : ℕ → Type 0) → MatchOption control (All IsPlain text) At → is_none control ≡ true → printable text ≡ text
printable_unchanged text None At plain none = printable_plain text plain
printable_unchanged text (Some at) At found none = absurd cc

-- A character's start in a text is one in the text as it is printed.
same_start : (control : Bool) (b : ℕ) → (128 ≤ b → 192 ≤ b) → 128 ≤ cond control 63 b → 192 ≤ cond control 63 b
same_start true b start high = absurd (omega (arith, high))
same_start false b start high = start high

pub printable_boundary : (text : List ℕ) (at : ℕ) → IsCharBoundary text at → IsCharBoundary (printable text) at
printable_boundary text at boundary = (
  omega (arith, boundary.0, length-map text printable_byte),
  λ l high.
      let within : at < length text = omega (arith, l, length-map text printable_byte) in
      let read = get_or-map printable_byte text at 0 0 within in
      let b : ℕ = slice_index text at in
      subst (λ n. 192 ≤ n) (sym read) (same_start (is_ascii_control b) b (boundary.1 within) (subst (λ n. 128 ≤ n) read high)),
)

-- ---- by characters

-- the byte is part of a character that isn't ASCII
abbrev IsHigh : ℕ → Type 0
IsHigh b = 128 ≤ b

high_byte : (b : ℕ) → IsHigh b → printable_byte b ≡ b
high_byte b h = let plain : is_ascii_control b ≡ false = grind (arith, nat_tests) in rw plain refl

high_bytes : (bs : List ℕ) → AllByRecursion IsHigh bs → printable bs ≡ bs
high_bytes [] p = refl
high_bytes (b ∷ bs) p = rw (high_byte b p.0, high_bytes bs p.1) refl

high_character : (c : ℕ) → IsHigh c → AllByRecursion IsHigh (encode c)
unfolding encode
high_character c h =
    let wide : nat_lt c 128 ≡ false = grind (arith, nat_tests) in
    rw wide (each_either IsHigh (nat_lt c 2048) _ _ (omega arith, (omega arith, tt))
    (each_either IsHigh (nat_lt c 65536) _ _ (omega arith, (omega arith, (omega arith, tt))) (omega arith, (omega arith, (omega arith, (omega arith, tt))))))

low_printable : (control : Bool) (c : ℕ) → c < 128 → cond control 63 c < 128
low_printable true c h = omega arith
low_printable false c h = h

printable_character : (c : ℕ) → encode (printable_byte c) ≡ printable (encode c)
printable_character c = elim (cases_lt c 128) [
  | inl low ↦ encode_ascii (printable_byte c) (low_printable (is_ascii_control c) c low) ∙ sym (ap printable (encode_ascii c low))
  | inr high ↦ ap encode (high_byte c high) ∙ sym (high_bytes (encode c) (high_character c high))
]

printable_encoded : (cs : List ℕ) → encodes (map printable_byte cs) ≡ printable (encodes cs)
printable_encoded [] = refl
printable_encoded (c ∷ cs) = rw (printable_character c, printable_encoded cs) (sym (map-append printable_byte (encode c) (encodes cs)))

pub printable_characters : (bs : List ℕ) → IsUtf8 bs → encodes (map printable_byte (chars bs)) ≡ printable bs
printable_characters bs text = printable_encoded (chars bs) ∙ ap printable (encodes-chars bs text)
