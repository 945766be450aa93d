-- Quoted scalars by their lines, for any reader of a line's part.
use Rattle.std.proofs.Common.{◌≡◌, ℕ, List, [], ◌∷◌, refl, sym, ap, subst, ◌∙◌, Bool, true, false, not, ◌&&◌, cond, inl, inr, Option, Some, None, Result, Ok, Err}
use Rattle.al_base.specs.declared.codes.YamlCode.TheVariants as yaml
use Rattle.al_scalar.specs.Line.{Cell, Line, cut, is_blank, after_blanks, is_empty}
use Rattle.al_scalar.specs.Taken.{Taken, ◌>>=◌, before, folding_space, feeds, fault}
use Rattle.al_scalar.specs.declared.faults.FaultAt.{FaultAt}
use Rattle.al_scalar.specs.Quoted.{QuotedLine, QuotedEnd, closed, broken, escaped, is_broken, part_before, line_given, is_empty_line, quoted_lines, quoted_scalar}
use Rattle.al_scalar.specs.Places.{first_text, first_end}
use Rattle.al_scalar.specs.LineEnds.{IsBlankByte, SameLine, first_last, later}
use Rattle.al_scalar.specs.Private.PlainLines.{is_blank_line, empty_ends, break_left}
use Rattle.al_scalar.specs.Private.Folding.{solid_lines, break_of}
use Rattle.al_scalar.proofs.CellRuns.{drop-front}
use Rattle.al_scalar.proofs.LineCells.{has_line}
use Rattle.al_scalar.proofs.OffsetLemmas.{choose}
use Rattle.al_scalar.proofs.FoldLemmas.{before-two, before-none, line_given-before, given-line}

-- the scalar, from the part of its first line and the lines after it
abbrev pub given : (List Cell → Result QuotedLine FaultAt) → ℕ → QuotedLine → List Line → Result Taken FaultAt
given part q p xs = line_given q [] p (record { text = []; end = first_end xs; last = first_last xs }) (later xs) (λ b. quoted_lines part q b (later xs))

given-part : (part : List Cell → Result QuotedLine FaultAt) (q : ℕ) (run : List Cell) (r : Result QuotedLine FaultAt) (xs ys : List Line) → SameLine xs ys
    → (part_before run r >>= (λ p. given part q p xs)) ≡ before run (r >>= (λ p. given part q p ys))
given-part part q run (Ok p) xs ys s =
    line_given-before q run p (record { text = []; end = first_end xs; last = first_last xs }) (later xs) (λ b. quoted_lines part q b (later xs))
    ∙ ap (before run) (rw (s.end, s.last, s.later) refl)
given-part part q run (Err e) xs ys s = refl

quoted-given : (part : List Cell → Result QuotedLine FaultAt) (q : ℕ) (xs : List Line) → has_line xs ≡ true → quoted_scalar part q xs ≡ (part (first_text xs) >>= (λ p. given part q p xs))
quoted-given part q [] h = cc
quoted-given part q (x ∷ xs) h = by_part (part x.text)
  where
    by_part : (r : Result QuotedLine FaultAt) → (r >>= (λ p. line_given q [] p x xs (λ b. quoted_lines part q b xs))) ≡ (r >>= (λ p. given part q p (x ∷ xs)))
    by_part (Ok p) = sym (given-line p.stop q [] p.text [] x xs (λ b. quoted_lines part q b xs))
    by_part (Err e) = refl

-- cells before the first line
pub quoted-run : (part : List Cell → Result QuotedLine FaultAt) (q : ℕ) (run : List Cell) (xs ys : List Line) → has_line xs ≡ true → has_line ys ≡ true → SameLine xs ys
    → part (first_text xs) ≡ part_before run (part (first_text ys)) → quoted_scalar part q xs ≡ before run (quoted_scalar part q ys)
quoted-run part q run xs ys h k s e =
    quoted-given part q xs h
    ∙ ap (λ r. r >>= (λ p. given part q p xs)) e
    ∙ given-part part q run (part (first_text ys)) xs ys s
    ∙ ap (before run) (sym (quoted-given part q ys k))

-- the scalar by the part of its first line
pub quoted-part : (part : List Cell → Result QuotedLine FaultAt) (q : ℕ) (xs : List Line) (r : Result QuotedLine FaultAt) → has_line xs ≡ true → part (first_text xs) ≡ r
    → quoted_scalar part q xs ≡ (r >>= (λ p. given part q p xs))
quoted-part part q xs r h e = quoted-given part q xs h ∙ ap (λ r. r >>= (λ p. given part q p xs)) e

pub given-closed : (part : List Cell → Result QuotedLine FaultAt) (q next : ℕ) (xs ys : List Line) → has_line ys ≡ true → SameLine xs ys
    → given part q (record { text = []; stop = closed next (first_text ys) }) xs ≡ Ok (record { text = []; end = next; left = ys })
given-closed part q next xs [] k s = cc
given-closed part q next xs (y ∷ ys) k s = rw (s.end, s.last, s.later) refl

-- a line that ends with a break, which may be escaped
abbrev pub stop_of : Bool → QuotedEnd
stop_of true = escaped
stop_of false = broken

pub given-break : (part : List Cell → Result QuotedLine FaultAt) (q : ℕ) (e : Bool) (xs : List Line) → first_last xs ≡ false
    → given part q (record { text = []; stop = stop_of e }) xs ≡ quoted_lines part q (break_of e (first_end xs)) (later xs)
given-break part q true xs f = rw f (before-none (quoted_lines part q None (later xs)))
given-break part q false xs f = rw f (before-none (quoted_lines part q (Some (first_end xs)) (later xs)))

-- a line that ends with the file
pub given-end : (part : List Cell → Result QuotedLine FaultAt) (q : ℕ) (e : Bool) (xs : List Line) → first_last xs ≡ true
    → given part q (record { text = []; stop = stop_of e }) xs ≡ fault yaml.UnclosedQuote q
given-end part q true xs f = rw f refl
given-end part q false xs f = rw f refl

-- ---- folding

-- whether the rest of a line gives nothing

abbrev pub is_nothing : QuotedLine → Bool
is_nothing p = is_empty p.text && is_broken p.stop

abbrev pub gives_nothing : Result QuotedLine FaultAt → Bool
gives_nothing (Ok p) = is_nothing p
gives_nothing (Err e) = false

-- The reader gives nothing for an empty line, and something for a cell that is no blank.
pub record IsReader (part : List Cell → Result QuotedLine FaultAt) : Type 0 where
  pub none : part [] ≡ Ok (record { text = []; stop = broken })
  pub some : (c : Cell) (cs : List Cell) → (IsBlankByte c.0 → ⊥) → gives_nothing (part (c ∷ cs)) ≡ false

solid-cell : (c : Cell) → is_blank c ≡ false → IsBlankByte c.0 → ⊥
solid-cell c e (inl f) = let g : is_blank c ≡ true = rw f refl in cc
solid-cell c e (inr f) = let g : is_blank c ≡ true = rw f refl in cc

no-cells : (cs : List Cell) → is_empty cs ≡ true → cs ≡ []
no-cells [] e = refl
no-cells (c ∷ cs) e = cc

-- what a pending break and the breaks of empty lines give
abbrev pub pending_given : Option ℕ → List ℕ → List Cell
pending_given b [] = folding_space b
pending_given b (e ∷ es) = feeds (e ∷ es)

pending-none : (es : List ℕ) → pending_given None es ≡ feeds es
pending-none [] = refl
pending-none (e ∷ es) = refl

pending-break : (e : Bool) (end : ℕ) (es : List ℕ) → pending_given (break_of e end) es ≡ break_left e end es
pending-break true end es = pending-none es
pending-break false end [] = refl
pending-break false end (e ∷ es) = refl

module _ (part : List Cell → Result QuotedLine FaultAt) (q : ℕ) where
  -- a line that isn't empty, after a space that the break before it may give
  line-solid : (b : Option ℕ) (t : List Cell) (l : Line) (ls : List Line) (r : Result QuotedLine FaultAt) (x : QuotedLine → Result Taken FaultAt) → (gives_nothing r && not l.last) ≡ false
      → (r >>= (λ p. cond (is_empty_line p l) (x p) (line_given q (folding_space b) p l ls (λ o. quoted_lines part q o ls))))
      ≡ before (folding_space b) (r >>= (λ p. line_given q [] p (record { text = t; end = l.end; last = l.last }) ls (λ o. quoted_lines part q o ls)))
  line-solid b t l ls (Ok p) x e =
      ap (λ z. cond z (x p) (line_given q (folding_space b) p l ls (λ o. quoted_lines part q o ls))) e
      ∙ line_given-before q (folding_space b) p l ls (λ o. quoted_lines part q o ls)
      ∙ ap (before (folding_space b)) (sym (given-line p.stop q [] p.text t l ls (λ o. quoted_lines part q o ls)))
  line-solid b t l ls (Err e) x h = refl

  lines-solid : (b : Option ℕ) (l : Line) (ls : List Line) → (gives_nothing (part (after_blanks l.text)) && not l.last) ≡ false
      → quoted_lines part q b (l ∷ ls) ≡ before (folding_space b) (quoted_scalar part q (cut (after_blanks l.text) l ls))
  lines-solid b l ls e = line-solid b (after_blanks l.text) l ls (part (after_blanks l.text)) (λ p. before ((10, l.end) ∷ []) (quoted_lines part q None ls)) e

  module _ (ok : IsReader part) where
    -- The text of such a line after its leading blanks gives something.
    solid-some : (cs : List Cell) → is_empty (after_blanks cs) ≡ false → gives_nothing (part (after_blanks cs)) ≡ false
    solid-some [] e = cc
    solid-some (c ∷ cs) e =
        subst (λ (t : List Cell). is_empty t ≡ false → gives_nothing (part t) ≡ false) (sym (drop-front is_blank c cs))
        (choose (λ (t : List Cell). is_empty t ≡ false → gives_nothing (part t) ≡ false) (is_blank c)
        (λ _. solid-some cs) (λ n _. ok.some c cs (solid-cell c n))) e

    lines-blank : (b : Option ℕ) (l : Line) (ls : List Line) → after_blanks l.text ≡ [] → l.last ≡ false
        → quoted_lines part q b (l ∷ ls) ≡ before ((10, l.end) ∷ []) (quoted_lines part q None ls)
    lines-blank b l ls e f = rw (e, ok.none, f) refl

    -- The break and the empty lines give their text, followed by the scalar from the next line with text.
    pub lines-fold : (b : Option ℕ) (ls : List Line) → quoted_lines part q b ls ≡ before (pending_given b (empty_ends ls)) (quoted_scalar part q (solid_lines ls))
    lines-fold b [] = refl
    lines-fold b (l ∷ ls) = by_text (lines-fold None ls) (is_empty (after_blanks l.text)) l.last refl refl
      where
        stops : is_blank_line l ≡ false → (gives_nothing (part (after_blanks l.text)) && not l.last) ≡ false
            → quoted_lines part q b (l ∷ ls) ≡ before (pending_given b (empty_ends (l ∷ ls))) (quoted_scalar part q (solid_lines (l ∷ ls)))
        stops e f = rw e (lines-solid b l ls f)

        by_text : quoted_lines part q None ls ≡ before (pending_given None (empty_ends ls)) (quoted_scalar part q (solid_lines ls))
            → (x z : Bool) → is_empty (after_blanks l.text) ≡ x → l.last ≡ z
            → quoted_lines part q b (l ∷ ls) ≡ before (pending_given b (empty_ends (l ∷ ls))) (quoted_scalar part q (solid_lines (l ∷ ls)))
        by_text below true true e f = stops (rw (e, f) refl) (rw (no-cells (after_blanks l.text) e, ok.none, f) refl)
        by_text below true false e f =
            let blank : is_blank_line l ≡ true = rw (e, f) refl in
            rw blank (lines-blank b l ls (no-cells (after_blanks l.text) e) f
            ∙ ap (before ((10, l.end) ∷ [])) (below ∙ ap (λ cs. before cs (quoted_scalar part q (solid_lines ls))) (pending-none (empty_ends ls)))
            ∙ before-two ((10, l.end) ∷ []) (feeds (empty_ends ls)) (quoted_scalar part q (solid_lines ls)))
        by_text below false z e f = stops (rw e refl) (rw (solid-some l.text e) refl)

    pub break-fold : (e : Bool) (end : ℕ) (ls : List Line) → quoted_lines part q (break_of e end) ls ≡ before (break_left e end (empty_ends ls)) (quoted_scalar part q (solid_lines ls))
    break-fold e end ls = lines-fold (break_of e end) ls ∙ ap (λ cs. before cs (quoted_scalar part q (solid_lines ls))) (pending-break e end (empty_ends ls))
