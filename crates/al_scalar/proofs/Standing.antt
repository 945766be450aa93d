-- Lines at an offset or after it, in a file of `size` bytes.
use Rattle.std.proofs.Common.{◌≡◌, ℕ, ◌+◌, ◌≤◌, List, [], ◌∷◌, length, refl, arith, false, ◌==◌}
use Rattle.al_scalar.specs.Block.{at_end}
use Rattle.al_scalar.specs.Line.{Cell, Line, lines, place, start, cut, is_break, with_cell, with_return}
use Rattle.al_scalar.specs.Offsets.{AreClimbing, AreLines}
use Rattle.al_scalar.proofs.OffsetLemmas.{choose, climbing-order, climbing-lower, climbing-place, tail-lines, lines-start}

pub place-end : (low end : ℕ) (cs : List Cell) → AreClimbing low end cs → place cs end ≤ end
place-end low end cs h = climbing-order (place cs end) end cs (climbing-place low end cs h).1

module _ (size : ℕ) where
  -- each line ends within the file
  abbrev pub EndIn : List Line → Type 0
  EndIn [] = Unit {0}
  EndIn (l ∷ ls) = (l.end ≤ size) × EndIn ls

  abbrev pub Stand : ℕ → List Line → Type 0
  Stand low ls = AreLines low ls × EndIn ls

  -- ---- bounds

  pub stand-lower : (low low' : ℕ) (ls : List Line) → low' ≤ low → Stand low ls → Stand low' ls
  stand-lower low low' [] a h = h
  stand-lower low low' (l ∷ ls) a h = ((climbing-lower low low' l.end l.text a h.0.0, h.0.1), h.1)

  pub start-after : (low : ℕ) (ls : List Line) → Stand low ls → low ≤ start ls
  start-after low ls h = lines-start low ls h.0

  pub start-in : (low : ℕ) (ls : List Line) → Stand low ls → start ls ≤ size
  start-in low [] h = absurd h.0
  start-in low (l ∷ ls) h = let a = place-end low l.end l.text h.0.0 in let b = h.1.0 in omega (arith, a, b)

  -- `low` may be raised to the start of the lines.
  pub stand-start : (low : ℕ) (ls : List Line) → Stand low ls → Stand (start ls) ls
  stand-start low [] h = h
  stand-start low (l ∷ ls) h = (((climbing-place low l.end l.text h.0.0).1, h.0.1), h.1)

  -- `low` may be any offset up to the start of the lines.
  pub stand-higher : (low low' : ℕ) (ls : List Line) → low' ≤ start ls → Stand low ls → Stand low' ls
  stand-higher low low' ls a h = stand-lower (start ls) low' ls a (stand-start low ls h)

  -- ---- the first line, and those after it

  pub stand-cut : (low at : ℕ) (cs : List Cell) (l : Line) (ls : List Line) → AreClimbing at l.end cs → Stand low (l ∷ ls)
      → Stand at (cut cs l ls)
  stand-cut low at cs l ls k h = ((k, h.0.1), h.1)

  pub stand-later : (low : ℕ) (l : Line) (ls : List Line) → l.last ≡ false → Stand low (l ∷ ls) → Stand (l.end + 1) ls
  stand-later low l ls e h = (tail-lines l.end l.last ls e h.0.1, h.1.1)

  pub stand-at_end : (low : ℕ) (l : Line) (ls : List Line) → Stand low (l ∷ ls) → Stand low (at_end l)
  stand-at_end low l ls h = ((climbing-order low l.end l.text h.0.0, refl), (h.1.0, tt))

  -- ---- the lines of a file's bytes

  end-return : (at : ℕ) (ls : List Line) → at ≤ size → EndIn ls → EndIn (with_return at ls)
  end-return at [] a h = h
  end-return at (l ∷ ls) a h = (a, h.1)

  end-cell : (c : Cell) (ls : List Line) → EndIn ls → EndIn (with_cell c ls)
  end-cell c [] h = h
  end-cell c (l ∷ ls) h = h

  pub lines-end : (at : ℕ) (bs : List ℕ) → at + length bs ≤ size → EndIn (lines at bs)
  lines-end at [] a = (omega (arith, a), tt)
  lines-end at (b ∷ bs) a =
      let more = lines-end (at + 1) bs (omega (arith, a)) in
      let here : at ≤ size = omega (arith, a) in
      choose EndIn (is_break b bs) (λ _. (here, more))
      (λ _. choose EndIn (b == 13) (λ _. end-return at (lines (at + 1) bs) here more) (λ _. end-cell (b, at) (lines (at + 1) bs) more))
