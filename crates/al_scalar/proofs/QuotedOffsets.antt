-- The offsets of a quoted scalar's text are in order, and the remaining lines follow it.
use Rattle.std.proofs.Common.{◌≡◌, ℕ, zero, suc, ◌*◌, ◌-◌, ◌+◌, ◌<◌, ◌≤◌, List, [], ◌∷◌, ◌++◌, refl, sym, subst, arith, true, false}
use Rattle.std.proofs.Common.{not, if◌then◌else◌, ◌&&◌, ◌==◌, nat_lt, Option, Some, None, Result, Ok, Err}
use Rattle.std.proofs.lemmas.Bool.{and_parts, not-true}
use Rattle.std.proofs.lemmas.Bool.Decides.{nat_tests}
use Rattle.std.proofs.lemmas.Grind.{common_steps}
use Rattle.std.proofs.Math.Utf8.{scalar}
use Rattle.std.specs.Char.{IsScalar}
use Rattle.std.specs.List.{list_all}
use Rattle.std.specs.Map.{lookup}
use Rattle.al_base.specs.Ascii.{ascii}
use Rattle.al_scalar.specs.Line.{Cell, Line, cut, is_blank, after_blanks, is_empty}
use Rattle.al_scalar.specs.Offsets.{AreClimbing}
use Rattle.al_scalar.specs.Quoted.{QuotedLine, QuotedEnd, closed, broken, escaped, cut_short, is_broken, with_own, single_part}
use Rattle.al_scalar.specs.Quoted.{escape_table, digits_table, is_scalar_value, character_cells, part_before, own_before}
use Rattle.al_scalar.specs.Quoted.{escape_digits, hex_digit, escape, double_part, line_given, is_empty_line, quoted_lines, quoted_scalar, single_quoted}
use Rattle.al_scalar.specs.Quoted.{double_quoted}
use Rattle.al_scalar.specs.Taken.{Taken, ◌>>=◌, before, folding_space}
use Rattle.al_scalar.specs.declared.faults.FaultAt.{FaultAt}
use Rattle.al_scalar.proofs.CellsRead.{Reads, reads-none, reads-here, reads-kept, reads-left_out, reads-second, reads-written, reads-blanks, reads-line}
use Rattle.al_scalar.proofs.OffsetLemmas.{choose, choose-option, climbing-blanks, climbing-order, climbing-lower}
use Rattle.al_scalar.proofs.TakenLemmas.{IsFrom, AreLeft, AreTaken, from-none, from-ascii, from-join, from-wider, from-order, rest-after, left-cut, left-first, left-later, taken-after}

-- ---- the part of a line

-- the offset is at most the end of a line with these cells
abbrev StandsIn : List Cell → ℕ → Type 0
StandsIn cs at = (low end : ℕ) → AreClimbing low end cs → at ≤ end

-- the text is decoded from the cells up to where the scalar leaves the line; the closing quote is ASCII
abbrev Stops : List Cell → List Cell → QuotedEnd → Type 0
Stops cs text (closed end rest) = (q : Cell) × (q.0 < 128) × (end ≡ q.1 + 1) × Reads cs text (q ∷ rest)
Stops cs text (cut_short at) = Reads cs text [] × StandsIn cs at
Stops cs text broken = Reads cs text []
Stops cs text escaped = Reads cs text []

abbrev GivesPart : List Cell → Result QuotedLine FaultAt → Type 0
GivesPart cs (Ok p) = Stops cs p.text p.stop
GivesPart cs (Err e) = StandsIn cs e.at

stands-first : (c : Cell) (cs : List Cell) → StandsIn (c ∷ cs) c.1
stands-first c cs low end h = let o = climbing-order (c.1 + 1) end cs h.1 in omega (arith, o)

stands-more : (c : Cell) (cs : List Cell) (at : ℕ) → StandsIn cs at → StandsIn (c ∷ cs) at
stands-more c cs at k low end h = k (c.1 + 1) end h.1

-- the same for other cells, if what is decoded from the former can be decoded from them
module _ {cs ds : List Cell} (stands : (at : ℕ) → StandsIn cs at → StandsIn ds at) where
  stops-also : {text new : List Cell} (s : QuotedEnd) → ((rest : List Cell) → Reads cs text rest → Reads ds new rest) → Stops cs text s → Stops ds new s
  stops-also (closed end rest) f h = (h.0, h.1, h.2, f (h.0 ∷ rest) h.3)
  stops-also (cut_short at) f h = (f [] h.0, stands at h.1)
  stops-also broken f h = f [] h
  stops-also escaped f h = f [] h

  gives-also : (r : Result QuotedLine FaultAt) → ((text rest : List Cell) → Reads cs text rest → Reads ds text rest) → GivesPart cs r → GivesPart ds r
  gives-also (Ok p) f h = stops-also p.stop (f p.text) h
  gives-also (Err e) f h = stands e.at h

  gives-before : (ws : List Cell) (r : Result QuotedLine FaultAt) → ((text rest : List Cell) → Reads cs text rest → Reads ds (ws ++ text) rest)
      → GivesPart cs r → GivesPart ds (part_before ws r)
  gives-before ws (Ok p) f h = stops-also p.stop (f p.text) h
  gives-before ws (Err e) f h = stands e.at h

own-reads : (c : Cell) (cs : List Cell) (p : QuotedLine) → GivesPart cs (Ok p) → GivesPart (c ∷ cs) (Ok (with_own c p))
own-reads c cs p h =
    choose (λ (p : QuotedLine). GivesPart (c ∷ cs) (Ok p)) (is_blank c && is_empty p.text && is_broken p.stop)
    (λ e. stops-also (stands-more c cs) p.stop (λ rest. reads-left_out c cs (grind (arith, nat_tests))) h)
    (λ _. stops-also (stands-more c cs) p.stop (λ rest. reads-kept c cs) h)

closed-reads : (c : Cell) (cs : List Cell) → c.0 < 128 → Stops (c ∷ cs) [] (closed (c.1 + 1) cs)
closed-reads c cs a = (c, a, refl, reads-here c cs a)

-- ---- single quotes

single-reads : (cs : List Cell) → GivesPart cs (Ok (single_part cs))
single-reads [] = reads-none
single-reads (c ∷ []) =
    choose (λ (p : QuotedLine). GivesPart (c ∷ []) (Ok p)) (c.0 == ascii "'") (λ e. closed-reads c [] (grind (arith, nat_tests)))
    (λ _. own-reads c [] (single_part []) (single-reads []))
single-reads (c ∷ d ∷ cs) =
    choose (λ (p : QuotedLine). GivesPart (c ∷ d ∷ cs) (Ok p)) (not (c.0 == ascii "'")) (λ _. own-reads c (d ∷ cs) (single_part (d ∷ cs)) (single-reads (d ∷ cs)))
    (λ e. choose (λ (p : QuotedLine). GivesPart (c ∷ d ∷ cs) (Ok p)) (d.0 == ascii "'")
    (λ f. stops-also (λ at k. stands-more c (d ∷ cs) at (stands-more d cs at k)) (single_part cs).stop
    (λ rest h. reads-kept c (d ∷ cs) (reads-left_out d cs (grind (arith, nat_tests)) h)) (single-reads cs))
    (λ _. closed-reads c (d ∷ cs) (grind (arith, nat_tests))))

-- ---- double quotes

-- an entry of a table whose keys are ASCII and whose values are characters
found : (b x : ℕ) (es : List (ℕ × ℕ)) → list_all (λ e. nat_lt e.0 128 && scalar e.1) es ≡ true → lookup (λ k. k == b) es ≡ Some x
    → (b < 128) × IsScalar x
found b x [] h f = absurd cc
found b x (e ∷ es) h f = grind (arith, nat_tests, common_steps, found b x es)

digit-ascii : (b d : ℕ) → hex_digit b ≡ Some d → b < 128
digit-ascii b d e = grind (arith, common_steps, e)

own-both : (c : Cell) (cs : List Cell) (r : Result QuotedLine FaultAt) → GivesPart cs r → GivesPart (c ∷ cs) (own_before c r)
own-both c cs (Ok p) h = own-reads c cs p h
own-both c cs (Err e) h = stands-more c cs e.at h

-- c is a backslash, and d follows it
module _ (c : Cell) (a : c.0 < 128) (d : Cell) (cs : List Cell) (b : d.0 < 128) where
  second : (r : Result QuotedLine FaultAt) → GivesPart (c ∷ cs) r → GivesPart (c ∷ d ∷ cs) r
  second r h =
      let stands : (at : ℕ) → StandsIn (c ∷ cs) at → StandsIn (c ∷ d ∷ cs) at =
      λ at k low end o. k low end (o.0, climbing-lower (d.1 + 1) (c.1 + 1) end cs (omega (arith, o.1.0)) o.1.1) in
      gives-also stands r (λ text rest. reads-second c d cs a b) h

  character-reads : (code : ℕ) → IsScalar code → (r : Result QuotedLine FaultAt) → GivesPart cs r → GivesPart (c ∷ d ∷ cs) (part_before (character_cells c.1 code) r)
  character-reads code v r h =
      gives-before (λ at k. stands-more c (d ∷ cs) at (stands-more d cs at k)) (character_cells c.1 code) r
      (λ text rest k. reads-second c d cs a b (reads-written c cs code a v k)) h

mutual
  double-reads : (cs : List Cell) → GivesPart cs (double_part cs)
  double-reads [] = reads-none
  double-reads (c ∷ cs) =
      choose (GivesPart (c ∷ cs)) (c.0 == ascii "\"") (λ e. closed-reads c cs (grind (arith, nat_tests)))
      (λ _. choose (GivesPart (c ∷ cs)) (c.0 == ascii "\\") (λ e. escape-reads c (grind (arith, nat_tests)) cs)
      (λ _. own-both c cs (double_part cs) (double-reads cs)))

  escape-reads : (c : Cell) → c.0 < 128 → (cs : List Cell) → GivesPart (c ∷ cs) (escape c.1 cs)
  escape-reads c a [] = reads-left_out c [] a reads-none
  escape-reads c a (d ∷ cs) =
      choose-option (GivesPart (c ∷ d ∷ cs)) (lookup (λ k. k == d.0) escape_table)
      (choose-option (GivesPart (c ∷ d ∷ cs)) (lookup (λ k. k == d.0) digits_table) (stands-first c (d ∷ cs))
      (λ width e. second c a d cs (found d.0 width digits_table refl e).0 (escape_digits c.1 (width - 1) 0 cs) (digits-reads c a (width - 1) 0 cs)))
      (λ code e. character-reads c a d cs (found d.0 code escape_table refl e).0 code (found d.0 code escape_table refl e).1 (double_part cs) (double-reads cs))

  digits-reads : (c : Cell) → c.0 < 128 → (n v : ℕ) (cs : List Cell) → GivesPart (c ∷ cs) (escape_digits c.1 n v cs)
  digits-reads c a n v [] = (reads-left_out c [] a reads-none, stands-first c [])
  digits-reads c a zero v (d ∷ cs) =
      choose-option (GivesPart (c ∷ d ∷ cs)) (hex_digit d.0) (stands-first c (d ∷ cs))
      (λ x e. choose (GivesPart (c ∷ d ∷ cs)) (is_scalar_value (16 * v + x))
      (λ s. character-reads c a d cs (digit-ascii d.0 x e) (16 * v + x) (grind (arith, nat_tests)) (double_part cs) (double-reads cs)) (λ _. stands-first c (d ∷ cs)))
  digits-reads c a (suc n) v (d ∷ cs) =
      choose-option (GivesPart (c ∷ d ∷ cs)) (hex_digit d.0) (stands-first c (d ∷ cs))
      (λ x e. second c a d cs (digit-ascii d.0 x e) (escape_digits c.1 n (16 * v + x) cs) (digits-reads c a n (16 * v + x) cs))

-- ---- lines

abbrev PartReader : (List Cell → Result QuotedLine FaultAt) → Type 0
PartReader part = (cs : List Cell) → GivesPart cs (part cs)

module _ (size : ℕ) (U : Type 0) (quote : ℕ) (q : quote ≤ size) where
  -- what `below` gives is from the lines after this one
  abbrev LinesReader : (Option ℕ → Result Taken FaultAt) → List Line → Type 0
  LinesReader below ls = (low mid : ℕ) (b : Option ℕ) → IsFrom U low mid (folding_space b) → AreLeft size U mid ls → AreTaken size U low (below b)

  module _ (l : Line) (ls : List Line) (below : Option ℕ → Result Taken FaultAt) (more : LinesReader below ls) where
    -- a line and those after it
    given-from : (low mid : ℕ) (space : List Cell) (p : QuotedLine) → IsFrom U low mid space → AreLeft size U mid (l ∷ ls) → GivesPart l.text (Ok p)
        → AreTaken size U low (line_given quote space p l ls below)
    given-from low mid space p h k g = by-stop p.stop g
      where
        goes_on : (b : Option ℕ) → IsFrom U l.end (l.end + 1) (folding_space b) → Reads l.text p.text [] → l.last ≡ false
            → AreTaken size U low (before (space ++ p.text) (below b))
        goes_on b f r e = taken-after size (below b) (from-join h (reads-line l ls r k).0) (more l.end (l.end + 1) b f (left-later e k))

        by-stop : (s : QuotedEnd) → Stops l.text p.text s → AreTaken size U low (line_given quote space (record { text = p.text; stop = s }) l ls below)
        by-stop (closed end rest) g =
            let read : IsFrom U mid g.0.1 p.text × AreLeft size U g.0.1 (cut (g.0 ∷ rest) l ls) = reads-line l ls g.3 k in
            subst (λ (end : ℕ). AreTaken size U low (Ok (record { text = space ++ p.text; end = end; left = cut rest l ls }))) (sym g.2) (
              from-join h (from-wider (omega arith) (omega arith) read.0),
              left-cut (rest-after g.1 (left-first read.1)) k,
            )
        by-stop (cut_short at) g = choose (AreTaken size U low) l.last (λ _. q)
            (λ _. let a = g.1 mid l.end k.stand.0.0 in let b = k.stand.1.0 in omega (arith, a, b))
        by-stop broken g = choose (AreTaken size U low) l.last (λ _. q) (goes_on (Some l.end) (from-ascii (omega arith) (omega arith)) g)
        by-stop escaped g = choose (AreTaken size U low) l.last (λ _. q) (goes_on None (from-none (omega arith)) g)

    line-fault : (low at : ℕ) → AreLeft size U low (l ∷ ls) → StandsIn l.text at → at ≤ size
    line-fault low at k g = let a = g low l.end k.stand.0.0 in let b = k.stand.1.0 in omega (arith, a, b)

    line-from : (low mid : ℕ) (break : Option ℕ) → IsFrom U low mid (folding_space break) → AreLeft size U mid (l ∷ ls)
        → (r : Result QuotedLine FaultAt) → GivesPart l.text r
        → AreTaken size U low (r >>= (λ p. if is_empty_line p l then before ((ascii "\n", l.end) ∷ []) (below None) else line_given quote (folding_space break) p l ls below))
    line-from low mid break h k (Err e) g = line-fault mid e.at k g
    line-from low mid break h k (Ok p) g =
        let order = from-order h in
        let line = climbing-order mid l.end l.text k.stand.0.0 in
        let feed : IsFrom U low (l.end + 1) ((ascii "\n", l.end) ∷ []) = from-ascii (omega arith) (omega (arith, order, line)) in
        choose (AreTaken size U low) (is_empty_line p l)
        (λ e. taken-after size (below None) feed (more (l.end + 1) (l.end + 1) None (from-none (omega arith))
        (left-later (not-true l.last (and_parts (is_empty p.text && is_broken p.stop) (not l.last) e).1) k)))
        (λ _. given-from low mid (folding_space break) p h k g)

    first-from : (low : ℕ) → AreLeft size U low (l ∷ ls) → (r : Result QuotedLine FaultAt) → GivesPart l.text r
        → AreTaken size U low (r >>= (λ p. line_given quote [] p l ls below))
    first-from low k (Err e) g = line-fault low e.at k g
    first-from low k (Ok p) g = given-from low low [] p (from-none (omega arith)) k g

  module _ (part : List Cell → Result QuotedLine FaultAt) (reads : PartReader part) where
    lines-from : (low mid : ℕ) (break : Option ℕ) (ls : List Line) → IsFrom U low mid (folding_space break) → AreLeft size U mid ls
        → AreTaken size U low (quoted_lines part quote break ls)
    lines-from low mid break [] h k = q
    lines-from low mid break (l ∷ ls) h k =
        let text = after_blanks l.text in
        line-from l ls (λ b. quoted_lines part quote b ls) (λ low mid b f g. lines-from low mid b ls f g) low mid break h k (part text)
        (gives-also (λ at g low end o. g low end (climbing-blanks low end l.text o)) (part text) (λ text rest. reads-blanks l.text) (reads text))

    quoted-from : (low : ℕ) (ls : List Line) → AreLeft size U low ls → AreTaken size U low (quoted_scalar part quote ls)
    quoted-from low [] k = q
    quoted-from low (l ∷ ls) k =
        first-from l ls (λ b. quoted_lines part quote b ls) (λ low mid b f g. lines-from low mid b ls f g) low k (part l.text) (reads l.text)

  pub single_quoted-from : (low : ℕ) (ls : List Line) → AreLeft size U low ls → AreTaken size U low (single_quoted quote ls)
  single_quoted-from low ls h = quoted-from (λ text. Ok (single_part text)) single-reads low ls h

  pub double_quoted-from : (low : ℕ) (ls : List Line) → AreLeft size U low ls → AreTaken size U low (double_quoted quote ls)
  double_quoted-from low ls h = quoted-from double_part double-reads low ls h
