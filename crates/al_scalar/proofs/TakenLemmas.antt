-- Text taken from lines is from between two offsets, at most four bytes for each of the file, and UTF-8 if the file is;
-- so are the remaining lines.
use Rattle.std.proofs.Common.{◌≡◌, ℕ, ◌+◌, ◌*◌, ◌<◌, ◌≤◌, List, [], ◌∷◌, ◌++◌, length, length-append, ap, subst, arith, refl, false, Result, Ok, Err}
use Rattle.std.proofs.lemmas.Str.{IsUtf8-nil}
use Rattle.al_base.specs.Ascii.{ascii}
use Rattle.al_scalar.specs.Block.{at_end}
use Rattle.al_scalar.specs.Line.{Cell, Line, cut, start}
use Rattle.al_scalar.specs.Offsets.{AreClimbing, AreRising}
use Rattle.al_scalar.specs.Taken.{Taken, before, feeds, folded_break}
use Rattle.al_scalar.specs.declared.faults.FaultAt.{FaultAt}
use Rattle.al_scalar.proofs.OffsetLemmas.{climbing-lower, rising-order, rising-lower, rising-higher, rising-join}
use Rattle.al_scalar.proofs.Standing.{Stand, stand-cut, stand-lower, stand-start, stand-later, stand-at_end}
use Rattle.al_scalar.proofs.Utf8Lemmas.{AreUtf8, bytes_of, split-after}
use Rattle.al_scalar.proofs.Utf8Texts.{IsText, text-join, one-ascii}

-- cells from between two offsets; U says that the file is UTF-8
pub record IsFrom (U : Type 0) (low high : ℕ) (cs : List Cell) : Type 0 where
  pub rising : AreRising low high cs
  pub size : length cs + 4 * low ≤ 4 * high
  pub text : U → IsText cs

-- the rest of a line
pub record IsRest (U : Type 0) (low end : ℕ) (cs : List Cell) : Type 0 where
  pub climbing : AreClimbing low end cs
  pub text : U → IsText cs

-- the remaining lines, in a file of `size` bytes
pub record AreLeft (size : ℕ) (U : Type 0) (low : ℕ) (ls : List Line) : Type 0 where
  pub stand : Stand size low ls
  pub utf8 : U → AreUtf8 ls

-- The text is from between an offset and its end, and the remaining lines follow it. A fault is in the file.
abbrev pub AreTaken : ℕ → Type 0 → ℕ → Result Taken FaultAt → Type 0
AreTaken size U low (Ok t) = IsFrom U low t.end t.text × AreLeft size U t.end t.left
AreTaken size U low (Err e) = e.at ≤ size

module _ {U : Type 0} where
  -- ---- cells

  pub from-order : {low high : ℕ} {cs : List Cell} → IsFrom U low high cs → low ≤ high
  from-order {low} {high} {cs} h = rising-order low high cs h.rising

  pub from-join : {low mid high : ℕ} {xs ys : List Cell} → IsFrom U low mid xs → IsFrom U mid high ys → IsFrom U low high (xs ++ ys)
  from-join {low} {mid} {high} {xs} {ys} h k = record {
    rising = rising-join low mid high xs ys h.rising k.rising;
    size = omega (arith, length-append xs ys, h.size, k.size);
    text = λ u. text-join xs ys (h.text u) (k.text u);
  }

  pub from-none : {low high : ℕ} → low ≤ high → IsFrom U low high []
  from-none h = record { rising = h; size = omega arith; text = λ _. IsUtf8-nil }

  pub from-cell : {low : ℕ} {c : Cell} → low ≤ c.1 → (U → IsText (c ∷ [])) → IsFrom U low (c.1 + 1) (c ∷ [])
  from-cell {low} {c} h t = record { rising = (h, omega arith, omega arith); size = omega (arith, h); text = t }

  pub from-ascii : {low b at : ℕ} → b < 128 → low ≤ at → IsFrom U low (at + 1) ((b, at) ∷ [])
  from-ascii {low} {b} {at} a h = from-cell h (λ _. one-ascii b a)

  pub from-wider : {low high low' high' : ℕ} {cs : List Cell} → low' ≤ low → high ≤ high' → IsFrom U low high cs → IsFrom U low' high' cs
  from-wider {low} {high} {low'} {high'} {cs} a b h = record {
    rising = rising-lower low low' high' cs a (rising-higher low high high' cs b h.rising);
    size = omega (arith, h.size);
    text = h.text;
  }

  pub rest-after : {low end : ℕ} {c : Cell} {cs : List Cell} → c.0 < 128 → IsRest U low end (c ∷ cs) → IsRest U (c.1 + 1) end cs
  rest-after {low} {end} {c} {cs} a h = record { climbing = h.climbing.1; text = λ u. split-after c.0 (bytes_of cs) a (h.text u) }

  pub rest-lower : {low low' end : ℕ} {cs : List Cell} → low' ≤ low → IsRest U low end cs → IsRest U low' end cs
  rest-lower {low} {low'} {end} {cs} a h = record { climbing = climbing-lower low low' end cs a h.climbing; text = h.text }

  -- ---- breaks

  pub from-feeds : {low mid high : ℕ} (xs ys : List ℕ) → IsFrom U low mid (feeds xs) → IsFrom U mid high (feeds ys) → IsFrom U low high (feeds (xs ++ ys))
  from-feeds {low} {mid} {high} xs ys h k = subst (IsFrom U low high) (join xs) (from-join h k)
    where
      join : (xs : List ℕ) → feeds xs ++ feeds ys ≡ feeds (xs ++ ys)
      join [] = refl
      join (x ∷ xs) = ap (λ cs. (ascii "\n", x) ∷ cs) (join xs)

  pub from-folded : {low mid high break : ℕ} (es : List ℕ) → low ≤ break → break < mid → IsFrom U mid high (feeds es) → IsFrom U low high (folded_break break es)
  from-folded {low} {mid} {high} {break} [] a b h = let o = from-order h in from-wider (omega arith) (omega (arith, b, o)) (from-ascii {b = ascii " "} (omega arith) a)
  from-folded {low} {mid} {high} {break} (e ∷ es) a b h = from-wider (omega (arith, a, b)) (omega arith) h

  -- ---- lines

  module _ {size : ℕ} where
    pub left-cut : {low at : ℕ} {cs : List Cell} {l : Line} {ls : List Line} → IsRest U at l.end cs → AreLeft size U low (l ∷ ls) → AreLeft size U at (cut cs l ls)
    left-cut {low} {at} {cs} {l} {ls} r h = record { stand = stand-cut size low at cs l ls r.climbing h.stand; utf8 = λ u. (r.text u, (h.utf8 u).1) }

    pub left-first : {low : ℕ} {l : Line} {ls : List Line} → AreLeft size U low (l ∷ ls) → IsRest U low l.end l.text
    left-first h = record { climbing = h.stand.0.0; text = λ u. (h.utf8 u).0 }

    pub left-lower : {low low' : ℕ} {ls : List Line} → low' ≤ low → AreLeft size U low ls → AreLeft size U low' ls
    left-lower {low} {low'} {ls} a h = record { stand = stand-lower size low low' ls a h.stand; utf8 = h.utf8 }

    pub left-later : {low : ℕ} {l : Line} {ls : List Line} → l.last ≡ false → AreLeft size U low (l ∷ ls) → AreLeft size U (l.end + 1) ls
    left-later {low} {l} {ls} e h = record { stand = stand-later size low l ls e h.stand; utf8 = λ u. (h.utf8 u).1 }

    pub left-at_end : {low : ℕ} {l : Line} {ls : List Line} → AreLeft size U low (l ∷ ls) → AreLeft size U low (at_end l)
    left-at_end {low} {l} {ls} h = record { stand = stand-at_end size low l ls h.stand; utf8 = λ u. (IsUtf8-nil, tt) }

    pub left-start : {low : ℕ} {ls : List Line} → AreLeft size U low ls → AreLeft size U (start ls) ls
    left-start {low} {ls} h = record { stand = stand-start size low ls h.stand; utf8 = h.utf8 }

  pub taken-after : (size : ℕ) {low mid : ℕ} {cs : List Cell} (r : Result Taken FaultAt) → IsFrom U low mid cs → AreTaken size U mid r → AreTaken size U low (before cs r)
  taken-after size (Ok t) h k = (from-join h k.0, k.1)
  taken-after size (Err e) h k = k

climbing-from : (low end : ℕ) (cs : List Cell) → AreClimbing low end cs → IsFrom ⊥ low end cs
climbing-from low end [] h = from-none h
climbing-from low end (c ∷ cs) h = from-join (from-cell h.0 (λ u. absurd u)) (climbing-from (c.1 + 1) end cs h.1)

pub from-rest : {U : Type 0} {low end : ℕ} {cs : List Cell} → IsRest U low end cs → IsFrom U low end cs
from-rest {U} {low} {end} {cs} h = let k = climbing-from low end cs h.climbing in record { rising = k.rising; size = k.size; text = h.text }
