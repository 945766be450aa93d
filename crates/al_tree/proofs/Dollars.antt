-- Each `${{` begins with a dollar sign, so a search may begin at the first one.
use Rattle.std.proofs.Common.{◌≡◌, ℕ, zero, suc, ◌-◌, ◌≤◌, List, [], ◌∷◌, drop, take, take_all, length, Bool, true, false, ◌||◌, ◌==◌, refl, sym, arith, ◌∙◌, ap, length-drop}
use Rattle.std.specs.Prelude.{codes, nat_eq}
use Rattle.std.specs.List.{starts_with}
use Rattle.std.proofs.lemmas.Bool.Decides.{nat_tests}
use Rattle.std.proofs.lemmas.List.{drop_all}
use Rattle.al_tree.specs.Faults.{has_chunk}
use Rattle.memchr.specs.Find.{NoneBefore, Nowhere, Passes, is_byte}

-- Another byte begins none.
other : (b : ℕ) (bs : List ℕ) → (b == 36 ≡ true → ⊥) → has_chunk (b ∷ bs) ≡ has_chunk bs
other b bs differs = by-byte (36 == b) refl
  where
    by-byte : (e : Bool) → 36 == b ≡ e → has_chunk (b ∷ bs) ≡ has_chunk bs
    by-byte true e = absurd (differs (grind (arith, nat_tests, e)))
    by-byte false e = rw e refl

-- If no dollar sign is before an offset, the bytes have a chunk exactly if those from it do.
skipped : (bs : List ℕ) (at : ℕ) → at ≤ length bs → Nowhere (Passes (is_byte 36) bs) 0 at → has_chunk bs ≡ has_chunk (drop at bs)
skipped bs zero h none = refl
skipped [] (suc at) h none = absurd (omega (arith, h))
skipped (b ∷ bs) (suc at) h none =
    other b bs (none 0 (omega arith) (omega arith)) ∙ skipped bs at (omega (arith, h)) (λ k low high. none (suc k) (omega arith) (omega (arith, high)))

pub no_dollar : (bs : List ℕ) → Nowhere (Passes (is_byte 36) bs) 0 (length bs) → has_chunk bs ≡ false
no_dollar bs none = skipped bs (length bs) (omega arith) none ∙ ap has_chunk (drop_all (length bs) bs (omega arith))

-- the bytes from the first dollar sign
module _ (bs : List ℕ) (at : ℕ) (first : NoneBefore (Passes (is_byte 36) bs) 0 (length bs) at) where
  rest : take (length bs - at) (drop at bs) ≡ drop at bs
  rest = take_all (length bs - at) (drop at bs) (omega (arith, length-drop at bs))

  pub from_dollar : has_chunk bs ≡ has_chunk (take (length bs - at) (drop at bs))
  from_dollar = skipped bs at (omega (arith, first.high)) first.before ∙ ap has_chunk (sym rest)

pub begins : (cs : List ℕ) → starts_with nat_eq cs (codes "${{") ≡ true → has_chunk cs ≡ true
begins [] e = absurd cc
begins (c ∷ cs) e = ap (λ b. b || has_chunk cs) e

pub after : (cs : List ℕ) → starts_with nat_eq cs (codes "${{") ≡ false → has_chunk cs ≡ has_chunk (take (length cs - 1) (drop 1 cs))
after [] e = refl
after (c ∷ cs) e = ap (λ b. b || has_chunk cs) e ∙ ap has_chunk (sym (take_all (length (c ∷ cs) - 1) cs (omega arith)))
