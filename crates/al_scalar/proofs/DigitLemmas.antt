-- Hexadecimal digits in terms of offsets.
use Rattle.std.proofs.Common.{◌≡◌, ℕ, suc, ◌+◌, ◌-◌, ◌*◌, ◌^◌, ◌<◌, ◌≤◌, lit<, List, [], ◌∷◌, ◌++◌, length, take, slice_index, refl, sym, ap, ◌∙◌, arith, append_assoc, Option, Some, None}
use Rattle.std.proofs.Math.Nat.{pow-le-pow_right}
use Rattle.std.proofs.lemmas.Bool.Decides.{nat_tests}
use Rattle.std.specs.Char.{digit_value}
use Rattle.std.specs.Prelude.{SomeIff}
use Rattle.std.proofs.Math.Seq.{take-append-add}
use Rattle.al_scalar.specs.Private.QuotedRead.{Between, hex_value}
use Rattle.al_scalar.specs.Line.{Cell}
use Rattle.al_scalar.specs.Quoted.{hex_digit}
use Rattle.al_scalar.specs.Places.{text_at}
use Rattle.al_scalar.specs.LineEnds.{cells_between}
use Rattle.al_scalar.proofs.BlockLemmas.{length-cells_between}
use Rattle.al_scalar.proofs.LineLemmas.{cells_between-more}
use Rattle.al_scalar.proofs.LineCells.{cell_at, same_then, IsInside}

-- ---- the value of digits

pub hex_value-step : (w d : ℕ) (c : Cell) (cs : List Cell) → hex_digit c.0 ≡ Some d → hex_value w (c ∷ cs) ≡ hex_value (16 * w + d) cs
hex_value-step w d c cs e = ap (λ o. elim o [ None ↦ None | Some d ↦ hex_value (16 * w + d) cs ]) e

hex_value-wrong : (w : ℕ) (c : Cell) (cs : List Cell) → hex_digit c.0 ≡ None → hex_value w (c ∷ cs) ≡ None
hex_value-wrong w c cs e = ap (λ o. elim o [ None ↦ None | Some d ↦ hex_value (16 * w + d) cs ]) e

pub hex_value-append : (v w : ℕ) (xs ys : List Cell) → hex_value v xs ≡ Some w → hex_value v (xs ++ ys) ≡ hex_value w ys
hex_value-append v w [] ys e = let same : v ≡ w = cc in ap (λ u. hex_value u ys) same
hex_value-append v w (c ∷ cs) ys e = more (hex_digit c.0) refl (λ u. hex_value-append u w cs ys)
  where
    more : (o : Option ℕ) → hex_digit c.0 ≡ o → ((u : ℕ) → hex_value u cs ≡ Some w → hex_value u (cs ++ ys) ≡ hex_value w ys) → hex_value v (c ∷ (cs ++ ys)) ≡ hex_value w ys
    more None f below = let no : hex_value v (c ∷ cs) ≡ None = hex_value-wrong v c cs f in cc
    more (Some d) f below = hex_value-step v d c (cs ++ ys) f ∙ below (16 * v + d) (sym (hex_value-step v d c cs f) ∙ e)

pub to_hex_digit : (b : ℕ) (r : Option ℕ) → SomeIff r (digit_value b < 16) (digit_value b) → hex_digit b ≡ r
to_hex_digit b None h = grind (arith, nat_tests, h)
to_hex_digit b (Some d) h = grind (arith, nat_tests, h.0, h.1)

-- ---- bounds of the value

pub digit-fits : (w d k : ℕ) → w < 16 ^ k → k < 8 → d < 16 → 16 * w + d < 2 ^ 32
digit-fits w d k h l m =
    let most : 16 ^ k ≤ 16 ^ 7 = pow-le-pow_right {n = 16} (lit< tt) {i = k} {j = 7} (omega (arith, l)) in
    omega (arith, h, most, m)

pub digit-more : (w d k : ℕ) → w < 16 ^ k → d < 16 → 16 * w + d < 16 ^ suc k
digit-more w d k h m = omega (arith, h, m)

-- ---- in terms of offsets

pub between-more : (bytes : List ℕ) (from i : ℕ) → Between bytes from i → IsInside bytes i → Between bytes from (i + 1)
between-more bytes from i b h =
    let cell = cell_at bytes i h.inside h.not_feed h.not_return in (
      record { from = let o = b.0.from in omega arith; inside = let l = h.inside in omega arith; same = same_then b.0.same cell.same },
      b.1 ∙ ap (λ t. cells_between bytes from i ++ t) cell.text ∙ sym (append_assoc (cells_between bytes from i) ((slice_index bytes i, i) ∷ []) (text_at bytes (i + 1)))
          ∙ ap (λ cs. cs ++ text_at bytes (i + 1)) (sym (cells_between-more bytes from i b.0.from)),
    )

pub value-more : (bytes : List ℕ) (from i w d : ℕ) → from ≤ i → hex_value 0 (cells_between bytes from i) ≡ Some w
    → hex_digit (slice_index bytes i) ≡ Some d → hex_value 0 (cells_between bytes from (i + 1)) ≡ Some (16 * w + d)
value-more bytes from i w d o e f =
    ap (hex_value 0) (cells_between-more bytes from i o)
    ∙ hex_value-append 0 w (cells_between bytes from i) ((slice_index bytes i, i) ∷ []) e
    ∙ hex_value-step w d (slice_index bytes i, i) [] f

-- a character that is no digit
pub digits-wrong : (bytes : List ℕ) (from i count w : ℕ) → Between bytes from i → IsInside bytes i → i < from + count
    → hex_value 0 (cells_between bytes from i) ≡ Some w → hex_digit (slice_index bytes i) ≡ None
    → hex_value 0 (take count (text_at bytes from)) ≡ None
digits-wrong bytes from i count w b h l e f =
    let cell = cell_at bytes i h.inside h.not_feed h.not_return in
    let ds = cells_between bytes from i in
    let k : ℕ = count - (i + 1 - from) in
    let o = b.0.from in
    let size : count ≡ length ds + suc k = omega (arith, length-cells_between bytes from i) in
    ap (λ t. hex_value 0 (take count t)) (b.1 ∙ ap (λ t. ds ++ t) cell.text)
    ∙ ap (λ n. hex_value 0 (take n (ds ++ (slice_index bytes i, i) ∷ text_at bytes (i + 1)))) size
    ∙ ap (hex_value 0) (take-append-add ds ((slice_index bytes i, i) ∷ text_at bytes (i + 1)) (suc k))
    ∙ hex_value-append 0 w ds ((slice_index bytes i, i) ∷ take k (text_at bytes (i + 1))) e
    ∙ hex_value-wrong w (slice_index bytes i, i) (take k (text_at bytes (i + 1))) f
