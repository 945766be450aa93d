-- The texts of scalars are UTF-8 if the lines are.
use Rattle.std.proofs.Common.{slice_index, ◌≡◌, ℕ, zero, suc, ◌<◌, List, [], ◌∷◌, ◌++◌, drop, sym, subst, arith, true}
use Rattle.std.specs.Prelude.{IsUtf8}
use Rattle.std.proofs.lemmas.Bool.Decides.{nat_tests}
use Rattle.std.proofs.lemmas.List.{map-append}
use Rattle.std.proofs.lemmas.Str.{IsUtf8-append, IsUtf8-from_ascii}
use Rattle.al_scalar.specs.Line.{Cell, Line, begins, past}
use Rattle.al_scalar.proofs.Utf8Lemmas.{AreUtf8, bytes_of, split-after}

abbrev pub IsText : List Cell → Type 0
IsText cs = IsUtf8 (bytes_of cs)

pub text-join : (xs ys : List Cell) → IsText xs → IsText ys → IsText (xs ++ ys)
text-join xs ys h k = subst IsUtf8 (sym (map-append (λ (c : Cell). c.0) xs ys)) (IsUtf8-append (bytes_of xs) (bytes_of ys) h k)

pub one-ascii : (b : ℕ) → b < 128 → IsUtf8 (b ∷ [])
one-ascii b l = IsUtf8-from_ascii (b ∷ []) below
  where
    below : (i : ℕ) → slice_index (b ∷ []) i < 128
    below zero = l
    below (suc i) = omega arith

-- the lines after an ASCII character
first-text : (q : ℕ) (cs : List Cell) → q < 128 → begins q cs ≡ true → IsText cs → IsText (drop 1 cs)
first-text q [] l h u = cc
first-text q (c ∷ cs) l h u = split-after c.0 (bytes_of cs) (grind (arith, nat_tests)) u

pub after-text : (q : ℕ) (l : Line) (ls : List Line) → q < 128 → begins q l.text ≡ true → AreUtf8 (l ∷ ls) → AreUtf8 (past 1 (l ∷ ls))
after-text q l ls a h u = (first-text q l.text a h u.0, u.1)
