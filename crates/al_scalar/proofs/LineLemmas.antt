-- Lines and cells in terms of offsets.
use Rattle.std.proofs.Common.{◌≡◌, ◌≢◌, ℕ, zero, suc, ◌+◌, ◌-◌, ◌<◌, ◌≤◌, List, [], ◌∷◌, ◌++◌, length, slice_index, refl, sym, ap, ◌∙◌, arith, add-one, add-zero, append_assoc, drop-cons, inl, inr}
use Rattle.std.proofs.lemmas.Grind.{common_steps}
use Rattle.al_scalar.specs.Line.{Cell, Line, with_cell, cut}
use Rattle.al_scalar.specs.Places.{lines_at}
use Rattle.al_scalar.specs.LineEnds.{cells_at, cells_between, with_cells_before, AreBlank, IsBlankByte}

cells_at-more : (bytes : List ℕ) (i n : ℕ) → cells_at bytes i (suc n) ≡ cells_at bytes i n ++ (slice_index bytes (i + n), i + n) ∷ []
cells_at-more bytes i zero = rw add-zero refl
cells_at-more bytes i (suc n) = let e : i + suc n ≡ suc i + n = omega arith in rw e (ap (λ cs. (slice_index bytes i, i) ∷ cs) (cells_at-more bytes (suc i) n))

-- one more byte at the end
pub cells_between-more : (bytes : List ℕ) (from i : ℕ) → from ≤ i → cells_between bytes from (i + 1) ≡ cells_between bytes from i ++ (slice_index bytes i, i) ∷ []
cells_between-more bytes from i h =
    let e : (i + 1) - from ≡ suc (i - from) = omega arith in
    let f : from + (i - from) ≡ i = omega arith in
    rw e (cells_at-more bytes from (i - from) ∙ rw f refl)

-- one more byte, prepended
pub cells_between-front : (bytes : List ℕ) (i j : ℕ) → i < j → cells_between bytes i j ≡ (slice_index bytes i, i) ∷ cells_between bytes (suc i) j
cells_between-front bytes i j h =
    let e : j - i ≡ suc (j - suc i) = omega arith in
    rw e refl

pub cells_between-none : (bytes : List ℕ) (i : ℕ) → cells_between bytes i i ≡ []
cells_between-none bytes i = let e : i - i ≡ 0 = omega arith in rw e refl

pub with_cells_before-more : (cs : List Cell) (c : Cell) (ls : List Line) → with_cells_before (cs ++ c ∷ []) ls ≡ with_cells_before cs (with_cell c ls)
with_cells_before-more cs c [] = refl
with_cells_before-more cs c (l ∷ ls) = ap (λ t. cut t l ls) (append_assoc cs (c ∷ []) l.text)

-- a byte that is no part of a break
pub lines_at-other : (bytes : List ℕ) (i : ℕ) → i < length bytes → slice_index bytes i ≢ 10 → slice_index bytes i ≢ 13
    → lines_at bytes i ≡ with_cell (slice_index bytes i, i) (lines_at bytes (i + 1))
lines_at-other bytes i h n m = rw (add-one, drop-cons bytes i 0) (grind (arith, common_steps, n, m))

pub AreBlank-more : (cs : List Cell) (c : Cell) → AreBlank cs → IsBlankByte c.0 → AreBlank (cs ++ c ∷ [])
AreBlank-more [] c s p = (p, tt)
AreBlank-more (x ∷ xs) c s p = (s.0, AreBlank-more xs c s.1 p)

pub IsBlankByte-other : (b : ℕ) → IsBlankByte b → (b ≢ 10) × (b ≢ 13)
IsBlankByte-other b (inl e) = (omega arith, omega arith)
IsBlankByte-other b (inr e) = (omega arith, omega arith)

-- appending a cell to the run and to the text that ends with it
pub pushed : {new mid run' : List Cell} (old run : List Cell) (c : Cell) → new ≡ mid ++ c ∷ [] → mid ≡ old ++ run → run' ≡ run ++ c ∷ [] → new ≡ old ++ run'
pushed old run c e f g = e ∙ ap (λ t. t ++ c ∷ []) f ∙ append_assoc old run (c ∷ []) ∙ ap (λ t. old ++ t) (sym g)

-- appending a blank to a run of blanks
pub blank_run-more : (bytes : List ℕ) (at i : ℕ) → at ≤ i → i < length bytes → IsBlankByte (slice_index bytes i)
    → lines_at bytes at ≡ with_cells_before (cells_between bytes at i) (lines_at bytes i)
    → lines_at bytes at ≡ with_cells_before (cells_between bytes at (i + 1)) (lines_at bytes (i + 1))
blank_run-more bytes at i order inside blank run =
    run
    ∙ ap (λ ls. with_cells_before (cells_between bytes at i) ls) (lines_at-other bytes i inside (IsBlankByte-other _ blank).0 (IsBlankByte-other _ blank).1)
    ∙ sym (with_cells_before-more (cells_between bytes at i) (slice_index bytes i, i) (lines_at bytes (i + 1)))
    ∙ ap (λ cs. with_cells_before cs (lines_at bytes (i + 1))) (sym (cells_between-more bytes at i order))
