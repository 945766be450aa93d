-- The lines of a UTF-8 file are UTF-8, since breaks are ASCII.
use Rattle.std.proofs.Common.{ℕ, ◌+◌, ◌<◌, List, [], ◌∷◌, ◌++◌, length, length-append, map}
use Rattle.std.proofs.Common.{sym, subst, arith, append_assoc, append-nil, ◌==◌}
use Rattle.std.proofs.lemmas.Bool.Decides.{nat_tests}
use Rattle.std.proofs.Math.Seq.{drop-append_seam, get_or-append_seam, take-append_seam}
use Rattle.std.specs.Prelude.{IsUtf8}
use Rattle.std.proofs.lemmas.Str.{IsUtf8-append, IsUtf8-take, IsUtf8-drop, IsCharBoundary-before_ascii, IsCharBoundary-after_ascii}
use Rattle.al_scalar.specs.Line.{Cell, Line, lines, is_break, with_cell, with_return, is_blank, after_blanks}
use Rattle.al_scalar.proofs.CellRuns.{drop-front}
use Rattle.al_scalar.proofs.OffsetLemmas.{choose}

-- ---- splitting a text at an ASCII byte

pub split-before : (p : List ℕ) (b : ℕ) (bs : List ℕ) → b < 128 → IsUtf8 (p ++ b ∷ bs) → IsUtf8 p × IsUtf8 (b ∷ bs)
split-before p b bs l u =
    let all = p ++ b ∷ bs in
    let e = get_or-append_seam p b bs 0 in
    let inside : length p < length all = omega (arith, length-append p (b ∷ bs)) in
    let cut = IsCharBoundary-before_ascii all (length p) inside (omega (arith, e, l)) in
    (subst IsUtf8 (take-append_seam p (b ∷ bs)) (IsUtf8-take all (length p) u cut), subst IsUtf8 (drop-append_seam p (b ∷ bs)) (IsUtf8-drop all (length p) u cut))

pub split-after : (b : ℕ) (bs : List ℕ) → b < 128 → IsUtf8 (b ∷ bs) → IsUtf8 bs
split-after b bs l u = IsUtf8-drop (b ∷ bs) 1 u (IsCharBoundary-after_ascii (b ∷ bs) 0 u (omega arith) l)

-- ---- cells

abbrev pub bytes_of : List Cell → List ℕ
bytes_of cs = map (λ (c : Cell). c.0) cs

pub keeps-blanks : (cs : List Cell) (p : List ℕ) → IsUtf8 (p ++ bytes_of cs) → IsUtf8 (p ++ bytes_of (after_blanks cs))
keeps-blanks [] p u = u
keeps-blanks (c ∷ cs) p u =
    subst (λ (t : List Cell). IsUtf8 (p ++ bytes_of t)) (sym (drop-front is_blank c cs))
    (choose (λ (t : List Cell). IsUtf8 (p ++ bytes_of t)) (is_blank c)
    (λ e. let ascii : c.0 < 128 = grind (arith, nat_tests) in
    let s = split-before p c.0 (bytes_of cs) ascii u in
    IsUtf8-append p (bytes_of (after_blanks cs)) s.0 (keeps-blanks cs [] (split-after c.0 (bytes_of cs) ascii s.1)))
    (λ _. u))

-- ---- lines

abbrev pub AreUtf8 : List Line → Type 0
AreUtf8 [] = Unit {0}
AreUtf8 (l ∷ ls) = IsUtf8 (bytes_of l.text) × AreUtf8 ls

-- the lines are UTF-8, with p prepended to the first one
abbrev GoOn : List ℕ → List Line → Type 0
GoOn p [] = ⊥
GoOn p (l ∷ ls) = IsUtf8 (p ++ bytes_of l.text) × AreUtf8 ls

all-lines : (ls : List Line) → GoOn [] ls → AreUtf8 ls
all-lines [] h = absurd h
all-lines (l ∷ ls) h = h

return-on : (p : List ℕ) (at : ℕ) (ls : List Line) → IsUtf8 p → GoOn [] ls → GoOn p (with_return at ls)
return-on p at [] u h = absurd h
return-on p at (l ∷ ls) u h = (IsUtf8-append p (bytes_of l.text) u h.0, h.1)

cell-on : (p : List ℕ) (b at : ℕ) (ls : List Line) → GoOn (p ++ b ∷ []) ls → GoOn p (with_cell (b, at) ls)
cell-on p b at [] h = absurd h
cell-on p b at (l ∷ ls) h = (subst IsUtf8 (append_assoc p (b ∷ []) (bytes_of l.text)) h.0, h.1)

lines-on : (p : List ℕ) (at : ℕ) (bs : List ℕ) → IsUtf8 (p ++ bs) → GoOn p (lines at bs)
lines-on p at [] u = (u, tt)
lines-on p at (b ∷ bs) u =
    choose (GoOn p) (is_break b bs)
    (λ e. let l : b < 128 = grind (arith, nat_tests) in
    let s = split-before p b bs l u in
    (subst IsUtf8 (sym (append-nil p)) s.0, all-lines (lines (at + 1) bs) (lines-on [] (at + 1) bs (split-after b bs l s.1))))
    (λ _. choose (GoOn p) (b == 13)
    (λ e. let l : b < 128 = grind (arith, nat_tests) in
    let s = split-before p b bs l u in
    return-on p at (lines (at + 1) bs) s.0 (lines-on [] (at + 1) bs (split-after b bs l s.1)))
    (λ _. cell-on p b at (lines (at + 1) bs) (lines-on (p ++ b ∷ []) (at + 1) bs (subst IsUtf8 (sym (append_assoc p (b ∷ []) bs)) u))))

pub lines-utf8 : (at : ℕ) (bs : List ℕ) → IsUtf8 bs → AreUtf8 (lines at bs)
lines-utf8 at bs u = all-lines (lines at bs) (lines-on [] at bs u)
