-- Offsets in ascending order, of texts and of lines.
use Rattle.std.proofs.Common.{◌≡◌, ℕ, zero, suc, ◌+◌, ◌≤◌, List, [], ◌∷◌, ◌++◌, drop, refl, sym, subst}
use Rattle.std.proofs.Common.{◌∙◌, arith, Bool, true, false, ◌==◌, if◌then◌else◌, Option, Some, None}
use Rattle.al_scalar.specs.Line.{Cell, Line, lines, place, start, is_blank, after_blanks, is_break, with_cell, with_return}
use Rattle.std.proofs.lemmas.Bool.Decides.{nat_tests}
use Rattle.std.specs.List.{prefix_len}
use Rattle.al_base.specs.FirstBytes.{begins_with}
use Rattle.al_scalar.specs.Places.{first_text}
use Rattle.al_scalar.specs.Offsets.{AreRising, AreClimbing, IsTail, AreLines}

-- ---- the cells of a text, `AreRising`

pub rising-order : (low high : ℕ) (cs : List Cell) → AreRising low high cs → low ≤ high
rising-order low high [] h = h
rising-order low high (c ∷ cs) h = omega (arith, h.0, h.1)

pub rising-lower : (low low' high : ℕ) (cs : List Cell) → low' ≤ low → AreRising low high cs → AreRising low' high cs
rising-lower low low' high [] a h = omega (arith, h)
rising-lower low low' high (c ∷ cs) a h = (omega (arith, h.0), h.1, h.2)

pub rising-higher : (low high high' : ℕ) (cs : List Cell) → high ≤ high' → AreRising low high cs → AreRising low high' cs
rising-higher low high high' [] a h = omega (arith, h)
rising-higher low high high' (c ∷ cs) a h = (h.0, omega (arith, h.1), rising-higher c.1 high high' cs a h.2)

pub rising-join : (low mid high : ℕ) (xs ys : List Cell) → AreRising low mid xs → AreRising mid high ys → AreRising low high (xs ++ ys)
rising-join low mid high [] ys h k = rising-lower mid low high ys h k
rising-join low mid high (c ∷ cs) ys h k = let o = rising-order mid high ys k in (h.0, omega (arith, h.1, o), rising-join c.1 mid high cs ys h.2 k)

-- ---- the cells of a line, `AreClimbing`

pub climbing-order : (low end : ℕ) (cs : List Cell) → AreClimbing low end cs → low ≤ end
climbing-order low end [] h = h
climbing-order low end (c ∷ cs) h = let k = climbing-order (c.1 + 1) end cs h.1 in omega (arith, h.0, k)

pub climbing-lower : (low low' end : ℕ) (cs : List Cell) → low' ≤ low → AreClimbing low end cs → AreClimbing low' end cs
climbing-lower low low' end [] a h = omega (arith, h)
climbing-lower low low' end (c ∷ cs) a h = (omega (arith, h.0), h.1)

-- from the first cell on
pub climbing-place : (low end : ℕ) (cs : List Cell) → AreClimbing low end cs → (low ≤ place cs end) × AreClimbing (place cs end) end cs
climbing-place low end [] h = (h, omega arith)
climbing-place low end (c ∷ cs) h = (h.0, (omega arith, h.1))

-- without the first cell
pub climbing-after : (low end : ℕ) (c : Cell) (cs : List Cell) → AreClimbing low end (c ∷ cs) → AreClimbing low end cs
climbing-after low end c cs h = climbing-lower (c.1 + 1) low end cs (omega (arith, h.0)) h.1

-- ---- case analysis of a test or an option, and cells that are dropped

pub choose : {A : Type 0} (P : A → Type 0) (b : Bool) {x y : A} → (b ≡ true → P x) → (b ≡ false → P y) → P (if b then x else y)
choose P true h k = h refl
choose P false h k = k refl

pub choose-option : {A : Type 0} (P : A → Type 0) (o : Option ℕ) {x : A} {f : ℕ → A} → P x → ((n : ℕ) → o ≡ Some n → P (f n)) → P (elim o [ None ↦ x | Some n ↦ f n ])
choose-option P None h k = h
choose-option P (Some n) h k = k n refl

pub climbing-drop : (n low end : ℕ) (cs : List Cell) → AreClimbing low end cs → AreClimbing low end (drop n cs)
climbing-drop zero low end cs h = h
climbing-drop (suc n) low end [] h = h
climbing-drop (suc n) low end (c ∷ cs) h = climbing-drop n low end cs (climbing-after low end c cs h)

pub climbing-blanks : (low end : ℕ) (cs : List Cell) → AreClimbing low end cs → AreClimbing low end (after_blanks cs)
climbing-blanks low end cs h = climbing-drop (prefix_len is_blank cs) low end cs h

-- ---- lines

pub tail-lines : (end : ℕ) (last : Bool) (ls : List Line) → last ≡ false → IsTail end last ls → AreLines (end + 1) ls
tail-lines end last [] e h = let wrong : false ≡ true = sym e ∙ h in absurd (cc)
tail-lines end last (l ∷ ls) e h = (h.1, h.2)

lines-tail : (end : ℕ) (ls : List Line) → AreLines (end + 1) ls → IsTail end false ls
lines-tail end [] h = absurd h
lines-tail end (l ∷ ls) h = (refl, h.0, h.1)

feed-text : (at : ℕ) (bs : List ℕ) → begins_with 10 bs ≡ true → first_text (lines at bs) ≡ []
feed-text at [] h = cc
feed-text at (b ∷ bs) h = rw h refl

tail-lower : (end end' : ℕ) (last : Bool) (ls : List Line) → end' ≤ end → IsTail end last ls → IsTail end' last ls
tail-lower end end' last [] a h = h
tail-lower end end' last (l ∷ ls) a h = (h.0, climbing-lower (end + 1) (end' + 1) l.end l.text (omega arith) h.1, h.2)

returned : (at : ℕ) (ls : List Line) → first_text ls ≡ [] → AreLines (at + 1) ls → AreLines at (with_return at ls)
returned at [] e h = absurd h
returned at (l ∷ ls) e h = let o = climbing-order (at + 1) l.end l.text h.0 in
    (subst (AreClimbing at at) (sym e) (omega arith), tail-lower l.end at l.last ls (omega (arith, o)) h.1)

celled : (at b : ℕ) (ls : List Line) → AreLines (at + 1) ls → AreLines at (with_cell (b, at) ls)
celled at b [] h = absurd h
celled at b (l ∷ ls) h = ((omega arith, h.0), h.1)

pub lines-climb : (at : ℕ) (bs : List ℕ) → AreLines at (lines at bs)
lines-climb at [] = (omega arith, refl)
lines-climb at (b ∷ bs) =
    let more = lines-climb (at + 1) bs in
    choose (AreLines at) (is_break b bs) (λ _. (omega arith, lines-tail at (lines (at + 1) bs) more))
    (λ e. choose (AreLines at) (b == 13)
    (λ k. returned at (lines (at + 1) bs) (feed-text (at + 1) bs (grind (arith, nat_tests, e, k))) more)
    (λ _. celled at b (lines (at + 1) bs) more))

pub lines-start : (low : ℕ) (ls : List Line) → AreLines low ls → low ≤ start ls
lines-start low [] h = absurd h
lines-start low (l ∷ ls) h = (climbing-place low l.end l.text h.0).0
