-- The first character that isn't printable is found by the bytes of the characters.
use Rattle.std.proofs.Common.{◌≡◌, ℕ, ◌+◌, ◌*◌, ◌/◌, ◌%◌, ◌<◌, ◌≤◌, List, [], ◌∷◌, ◌++◌, refl, sym, ap, ◌∙◌, arith}
use Rattle.std.proofs.Common.{Bool, true, false, cond, not, Option, Some, IsUtf8, nat_lt, inl, inr}
use Rattle.std.proofs.Math.Utf8.{encode, encodes, scalar, scalars}
use Rattle.std.proofs.lemmas.Bool.{cases_Bool, and_parts, ltb-false, ltb-true}
use Rattle.std.proofs.lemmas.Bool.Decides.{nat_tests}
use Rattle.std.proofs.lemmas.Str.{encodes-chars, scalars-chars}
use Rattle.std.specs.Char.{len_utf8}
use Rattle.std.specs.Str.{chars}
use Rattle.al_yaml_tree.specs.Bytes.{is_printable, unprintable_at}
use Rattle.al_yaml_parts.specs.Private.PlainBytes.{is_unprintable, unprintable_byte}

-- A byte that continues a character is skipped.
inner : (at b : ℕ) (bs : List ℕ) → 128 ≤ b → b < 192 → unprintable_byte at (b ∷ bs) ≡ unprintable_byte (at + 1) bs
inner at b bs low high =
    let none : is_unprintable (b ∷ bs) ≡ false = grind (arith, nat_tests, low, high) in rw none refl

-- The first byte of a character tells whether it is printable, with those that follow it.
first : (at c a : ℕ) (bs : List ℕ) (more : Option ℕ) → is_unprintable (a ∷ bs) ≡ not (is_printable c) → unprintable_byte (at + 1) bs ≡ more
    → unprintable_byte at (a ∷ bs) ≡ cond (is_printable c) more (Some at)
first at c a bs more e f = rw (e, f) (choice (is_printable c))
  where
    choice : (p : Bool) → cond (not p) (Some at) more ≡ cond p more (Some at)
    choice true = refl
    choice false = refl

-- where the search goes on after a character
abbrev Goes : ℕ → ℕ → List ℕ → List ℕ → ℕ → Type 0
Goes at c bytes rest len = unprintable_byte at (bytes ++ rest) ≡ cond (is_printable c) (unprintable_byte (at + len) rest) (Some at)

one : (at c : ℕ) (rest : List ℕ) → c < 128 → Goes at c (c ∷ []) rest 1
one at c rest h = first at c c rest _ (grind (arith, nat_tests, h)) refl

two : (at c q r : ℕ) (rest : List ℕ) → c ≡ 64 * q + r → r < 64 → 128 ≤ c → c < 2048 → Goes at c ((192 + q) ∷ (128 + r) ∷ []) rest 2
two at c q r rest is h low high =
    first at c (192 + q) ((128 + r) ∷ rest) _ (grind (arith, nat_tests, is, h, low, high))
    (inner (at + 1) (128 + r) rest (omega arith) (omega (arith, h)) ∙ ap (λ n. unprintable_byte n rest) (omega arith))

three : (at c q s r : ℕ) (rest : List ℕ) → c ≡ 4096 * q + 64 * s + r → s < 64 → r < 64 → 2048 ≤ c → c < 65536 → scalar c ≡ true
    → Goes at c ((224 + q) ∷ (128 + s) ∷ (128 + r) ∷ []) rest 3
three at c q s r rest is h k low high u =
    first at c (224 + q) ((128 + s) ∷ (128 + r) ∷ rest) _ (grind (arith, nat_tests, is, h, k, low, high, u))
    (inner (at + 1) (128 + s) ((128 + r) ∷ rest) (omega arith) (omega (arith, h)) ∙ inner (at + 1 + 1) (128 + r) rest (omega arith) (omega (arith, k))
    ∙ ap (λ n. unprintable_byte n rest) (omega arith))

four : (at c q s t r : ℕ) (rest : List ℕ) → s < 64 → t < 64 → r < 64 → 65536 ≤ c → scalar c ≡ true
    → Goes at c ((240 + q) ∷ (128 + s) ∷ (128 + t) ∷ (128 + r) ∷ []) rest 4
four at c q s t r rest h k m low u =
    first at c (240 + q) ((128 + s) ∷ (128 + t) ∷ (128 + r) ∷ rest) _ (grind (arith, nat_tests, low, u))
    (inner (at + 1) (128 + s) ((128 + t) ∷ (128 + r) ∷ rest) (omega arith) (omega (arith, h)) ∙ inner (at + 1 + 1) (128 + t) ((128 + r) ∷ rest) (omega arith) (omega (arith, k))
    ∙ inner (at + 1 + 1 + 1) (128 + r) rest (omega arith) (omega (arith, m)) ∙ ap (λ n. unprintable_byte n rest) (omega arith))

encoded : (at c : ℕ) (rest : List ℕ) → scalar c ≡ true → Goes at c (encode c) rest (len_utf8 c)
unfolding encode
encoded at c rest u =
    elim (cases_Bool (nat_lt c 128)) [
      | inl e ↦ rw e (one at c rest (ltb-true c 128 e))
      | inr e ↦ elim (cases_Bool (nat_lt c 2048)) [
        | inl f ↦ rw (e, f) (two at c (c / 64) (c % 64) rest (omega arith) (omega arith) (ltb-false c 128 e) (ltb-true c 2048 f))
        | inr f ↦ elim (cases_Bool (nat_lt c 65536)) [
          | inl g ↦ rw (e, f, g) (three at c (c / 4096) (c / 64 % 64) (c % 64) rest (omega arith) (omega arith) (omega arith) (ltb-false c 2048 f) (ltb-true c 65536 g) u)
          | inr g ↦ rw (e, f, g) (four at c (c / 262144) (c / 4096 % 64) (c / 64 % 64) (c % 64) rest (omega arith) (omega arith) (omega arith) (ltb-false c 65536 g) u)
        ]
      ]
    ]

-- the search by bytes among all of these characters
characters : (at : ℕ) (cs : List ℕ) → scalars cs ≡ true → unprintable_byte at (encodes cs) ≡ unprintable_at at cs
characters at [] u = refl
characters at (c ∷ cs) u =
    let each = and_parts (scalar c) (scalars cs) u in
    encoded at c (encodes cs) each.0 ∙ ap (λ more. cond (is_printable c) more (Some at)) (characters (at + len_utf8 c) cs each.1)

-- In UTF-8 the search by bytes gives the first character that isn't printable.
pub same_offset : (bs : List ℕ) → IsUtf8 bs → unprintable_byte 0 bs ≡ unprintable_at 0 (chars bs)
same_offset bs u = ap (unprintable_byte 0) (sym (encodes-chars bs u)) ∙ characters 0 (chars bs) (scalars-chars bs u)
