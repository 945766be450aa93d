-- The lines of a quoted scalar, and where they end in terms of offsets.
use Rattle.std.proofs.Common.{◌≡◌, ℕ, ◌<◌, List, [], ◌∷◌, ◌++◌, length, refl, sym, ap, ◌∙◌, append_assoc}
use Rattle.std.proofs.Common.{Bool, true, false, cond, Option, Some, None, Result, Ok, Err}
use Rattle.al_base.specs.declared.codes.YamlCode.TheVariants.{UnclosedQuote, WrongEscape}
use Rattle.al_scalar.specs.Line.{Cell, Line, with_return, after_blanks, is_blank}
use Rattle.al_scalar.specs.Taken.{Taken, before, fault}
use Rattle.al_scalar.specs.declared.faults.FaultAt.{FaultAt}
use Rattle.al_scalar.specs.Quoted.{QuotedLine, QuotedEnd, closed, broken, escaped, cut_short, line_given}
use Rattle.al_scalar.specs.Places.{first_end, lines_at}
use Rattle.al_scalar.specs.LineEnds.{AreBlank, IsBlankByte, IsLineEnd, first_last}
use Rattle.al_scalar.proofs.CellRuns.{drop-front}
use Rattle.al_scalar.proofs.LineCells.{broken-at, has_line, is_blank-yes, is_blank-no}

pub before-two : (a b : List Cell) (r : Result Taken FaultAt) → before a (before b r) ≡ before (a ++ b) r
before-two a b (Ok t) = ap (λ c. Ok (record { text = c; end = t.end; left = t.left })) (sym (append_assoc a b t.text))
before-two a b (Err e) = refl

pub before-none : (r : Result Taken FaultAt) → before [] r ≡ r
before-none (Ok t) = refl
before-none (Err e) = refl

pub after_blanks-run : (run rest : List Cell) → AreBlank run → after_blanks (run ++ rest) ≡ after_blanks rest
after_blanks-run [] rest h = refl
after_blanks-run (c ∷ cs) rest h = drop-front is_blank c (cs ++ rest) ∙ ap (λ b. cond b (after_blanks (cs ++ rest)) (c ∷ (cs ++ rest))) (is_blank-yes c h.0) ∙ after_blanks-run cs rest h.1

before-cond : (space : List Cell) (b : Bool) (x y : Result Taken FaultAt) → before space (cond b x y) ≡ cond b (before space x) (before space y)
before-cond space true x y = refl
before-cond space false x y = refl

given-stop : (st : QuotedEnd) (q : ℕ) (space t : List Cell) (l : Line) (ls : List Line) (below : Option ℕ → Result Taken FaultAt)
    → line_given q space (record { text = t; stop = st }) l ls below ≡ before space (line_given q [] (record { text = t; stop = st }) l ls below)
given-stop (closed e rest) q space t l ls below = refl
given-stop (cut_short at) q space t l ls below = sym (before-cond space l.last (fault UnclosedQuote q) (fault WrongEscape at))
given-stop broken q space t l ls below =
    ap (λ r. cond l.last (fault UnclosedQuote q) r) (sym (before-two space t (below (Some l.end)))) ∙ sym (before-cond space l.last (fault UnclosedQuote q) (before t (below (Some l.end))))
given-stop escaped q space t l ls below =
    ap (λ r. cond l.last (fault UnclosedQuote q) r) (sym (before-two space t (below None))) ∙ sym (before-cond space l.last (fault UnclosedQuote q) (before t (below None)))

-- `space` is a prefix of what a line gives.
pub line_given-before : (q : ℕ) (space : List Cell) (p : QuotedLine) (l : Line) (ls : List Line) (below : Option ℕ → Result Taken FaultAt)
    → line_given q space p l ls below ≡ before space (line_given q [] p l ls below)
line_given-before q space p l ls below = given-stop p.stop q space p.text l ls below

-- `line_given` doesn't depend on the text of the line.
pub given-line : (st : QuotedEnd) (q : ℕ) (space t x : List Cell) (l : Line) (ls : List Line) (below : Option ℕ → Result Taken FaultAt)
    → line_given q space (record { text = t; stop = st }) (record { text = x; end = l.end; last = l.last }) ls below ≡ line_given q space (record { text = t; stop = st }) l ls below
given-line (closed e rest) q space t x l ls below = refl
given-line (cut_short at) q space t x l ls below = refl
given-line broken q space t x l ls below = refl
given-line escaped q space t x l ls below = refl

-- ---- in terms of offsets

-- the first cell is no blank
pub after_blanks-solid : (c : Cell) (cs : List Cell) → (IsBlankByte c.0 → ⊥) → after_blanks (c ∷ cs) ≡ c ∷ cs
after_blanks-solid c cs h = drop-front is_blank c cs ∙ ap (λ b. cond b (after_blanks cs) (c ∷ cs)) (is_blank-no c h)

-- At a break the line ends, and isn't the last one.
pub end-with_return : (at : ℕ) (ls : List Line) → has_line ls ≡ true → first_end (with_return at ls) ≡ at
end-with_return at [] h = cc
end-with_return at (l ∷ ls) h = refl

pub break-at : (bytes : List ℕ) (i : ℕ) → i < length bytes → IsLineEnd bytes i → (first_end (lines_at bytes i) ≡ i) × (first_last (lines_at bytes i) ≡ false)
break-at bytes i l k = let broken = broken-at bytes i l k in (ap first_end broken.1, ap first_last broken.1)
