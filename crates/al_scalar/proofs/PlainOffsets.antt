-- The offsets of a plain scalar's text are in order, and the remaining lines follow it.
use Rattle.std.proofs.Common.{◌≡◌, ℕ, ◌+◌, ◌≤◌, List, [], ◌∷◌, ◌++◌, refl, sym, subst, arith, Bool, true, false, not, ◌&&◌, Ok}
use Rattle.std.proofs.lemmas.Bool.Decides.{nat_tests}
use Rattle.al_scalar.specs.Line.{Cell, Line, start, is_blank, after_blanks, is_empty}
use Rattle.al_scalar.specs.Offsets.{IsTail}
use Rattle.al_scalar.specs.Plain.{Context, is_flow, is_value_colon, ends_plain, plain_part, continues, ended_before, plain_lines, plain}
use Rattle.al_scalar.specs.Taken.{Taken, feeds}
use Rattle.al_scalar.proofs.CellsRead.{Reads, reads-none, reads-here, reads-kept, reads-blanks, reads-line}
use Rattle.al_scalar.proofs.OffsetLemmas.{choose, climbing-order, climbing-blanks}
use Rattle.al_scalar.proofs.Standing.{place-end, EndIn}
use Rattle.al_scalar.proofs.TakenLemmas.{IsFrom, AreLeft, AreTaken, from-none, from-ascii, from-join, from-feeds, from-folded, left-start, taken-after}
use Rattle.al_scalar.proofs.Utf8Lemmas.{AreUtf8}

plain-reads : (p : Context) (blank : Bool) (cs : List Cell) → Reads cs (plain_part p blank cs).0 (plain_part p blank cs).1
plain-reads p blank [] = reads-none
plain-reads p blank (c ∷ cs) =
    let more = plain_part p (is_blank c) cs in
    choose (λ (r : List Cell × List Cell). Reads (c ∷ cs) r.0 r.1) (ends_plain p blank (c ∷ cs)) (λ e. reads-here c cs (grind (arith, nat_tests)))
    (λ _. choose (λ (r : List Cell × List Cell). Reads (c ∷ cs) r.0 r.1) (is_blank c && is_empty more.0) (λ e. reads-here c cs (grind (arith, nat_tests)))
    (λ _. reads-kept c cs (plain-reads p (is_blank c) cs)))

module _ (size : ℕ) (U : Type 0) where
  nothing-more : (here : Taken) → here.text ≡ [] → AreLeft size U here.end here.left → AreTaken size U here.end (Ok here)
  nothing-more here e s = (subst (IsFrom U here.end here.end) (sym e) (from-none (omega arith)), s)

  -- a break at `low` or later, and the breaks of the empty lines after it
  record AreBreaks (low high break : ℕ) (es : List ℕ) : Type 0 where
    from : low ≤ break
    feeds : IsFrom U (break + 1) high (feeds es)

  lines-from : (p : Context) (here : Taken) (break : ℕ) (es : List ℕ) (end : ℕ) (last : Bool) (ls : List Line)
      → here.text ≡ [] → AreLeft size U here.end here.left → AreBreaks here.end (end + 1) break es → IsTail end last ls → EndIn size ls → (U → AreUtf8 ls)
      → AreTaken size U here.end (plain_lines p here break es ls)
  lines-from p here break es end last [] e s b h k u = nothing-more here e s
  lines-from p here break es end last (l ∷ ls) e s b h k u =
      let text = after_blanks l.text in
      let part = plain_part p true text in
      let rest = after_blanks part.1 in
      let there = ended_before part.1 l ls in
      let line = climbing-order (end + 1) l.end l.text h.1 in
      let read : IsFrom U (end + 1) there.end part.0 × AreLeft size U there.end there.left =
      reads-line l ls (reads-blanks l.text (plain-reads p true text)) (record { stand = ((h.1, h.2), k); utf8 = u }) in
      let after = climbing-order there.end l.end part.1 read.1.stand.0.0 in
      choose (AreTaken size U here.end) (is_empty text)
      (λ _. let one : IsFrom U (end + 1) (l.end + 1) (feeds (l.end ∷ [])) = from-ascii (omega arith) line in
      lines-from p here break (es ++ l.end ∷ []) l.end l.last ls e s (record { from = b.from; feeds = from-feeds es (l.end ∷ []) b.feeds one }) h.2 k.1 (λ w. (u w).1))
      (λ _. choose (AreTaken size U here.end) (not (continues p l.text)) (λ _. nothing-more here e s)
      (λ _. choose (AreTaken size U here.end) (not (is_flow p) && is_value_colon p rest)
      (λ _. let a = place-end there.end l.end rest (climbing-blanks there.end l.end part.1 read.1.stand.0.0) in let b = k.0 in omega (arith, a, b))
      (λ _. taken-after size _ (from-join (from-folded es b.from (omega arith) b.feeds) read.0)
      (choose (AreTaken size U there.end) (is_empty rest)
      (λ _. lines-from p there l.end [] l.end l.last ls refl read.1 (record { from = after; feeds = from-none (omega arith) }) h.2 k.1 (λ w. (u w).1))
      (λ _. nothing-more there refl read.1)))))

  pub plain-from : (p : Context) (low : ℕ) (ls : List Line) → AreLeft size U low ls → AreTaken size U (start ls) (plain p ls)
  plain-from p low [] h = absurd h.stand.0
  plain-from p low (l ∷ ls) h =
      let part = plain_part p false l.text in
      let here = ended_before part.1 l ls in
      let first : AreLeft size U (start (l ∷ ls)) (l ∷ ls) = left-start h in
      let read : IsFrom U (start (l ∷ ls)) here.end part.0 × AreLeft size U here.end here.left = reads-line l ls (plain-reads p false l.text) first in
      let after = climbing-order here.end l.end part.1 read.1.stand.0.0 in
      taken-after size _ read.0
      (choose (AreTaken size U here.end) (is_empty (after_blanks part.1))
      (λ _. lines-from p here l.end [] l.end l.last ls refl read.1 (record { from = after; feeds = from-none (omega arith) }) h.stand.0.1 h.stand.1.1 (λ w. (h.utf8 w).1))
      (λ _. nothing-more here refl read.1))
