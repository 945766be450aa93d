-- The offsets of a block scalar's text are in order, and the remaining lines follow its end.
use Rattle.std.proofs.Common.{◌≡◌, ℕ, zero, suc, ◌+◌, ◌-◌, ◌<◌, ◌≤◌, List, [], ◌∷◌, ◌++◌, drop, refl, arith, Bool, true, false, not}
use Rattle.std.proofs.Common.{if◌then◌else◌, ◌&&◌, ◌||◌, nat_le, Option, Some, None, Result, Ok, Err}
use Rattle.std.proofs.lemmas.Bool.Decides.{nat_tests}
use Rattle.std.proofs.lemmas.Str.{IsUtf8-nil}
use Rattle.std.specs.Option.{is_none, is_some, unwrap_or}
use Rattle.al_base.specs.Ascii.{is_sign}
use Rattle.al_scalar.specs.Line.{Cell, Line, place, start, is_empty, begins, after_blanks, begins_blank, is_comment, indent, is_all_blank}
use Rattle.al_scalar.specs.Block.{header_end, header, is_digit}
use Rattle.al_scalar.specs.declared.header.Chomping.{Chomping}
use Rattle.al_scalar.specs.declared.header.Chomping.TheVariants.{Strip, Clip, Keep}
use Rattle.al_scalar.specs.declared.header.Header.{Header}
use Rattle.al_scalar.specs.Block.{chomping_of, content_indent, BlockLine, Rows, row_of, at_end, with_row, rows_at, final_breaks}
use Rattle.al_scalar.specs.Block.{own_break, between_rows, joint, text_after, last_end, rows_end, block_scalar}
use Rattle.al_scalar.specs.Offsets.{AreBefore, AreClimbing}
use Rattle.al_scalar.specs.Taken.{Taken, ◌>>=◌, feeds}
use Rattle.al_scalar.specs.declared.faults.FaultAt.{FaultAt}
use Rattle.al_scalar.proofs.OffsetLemmas.{choose, climbing-order, climbing-lower, climbing-blanks}
use Rattle.al_scalar.proofs.Standing.{start-after, stand-higher}
use Rattle.al_scalar.proofs.TakenLemmas.{IsFrom, IsRest, AreLeft, from-none, from-ascii, from-join, from-wider, from-order, from-rest, from-feeds, from-folded}
use Rattle.al_scalar.proofs.TakenLemmas.{rest-after, rest-lower, left-cut, left-first, left-lower, left-later, left-at_end, left-start}

-- ---- rows

-- the offset of a row's break, and the offset after it; the last row has none
abbrev break_at : ℕ → List ℕ → ℕ
break_at high [] = high
break_at high (e ∷ es) = e

abbrev break_after : ℕ → List ℕ → ℕ
break_after high [] = high
break_after high (e ∷ es) = e + 1

-- the break of the last line with text, and those of the empty lines since
record ArePending (U : Type 0) (low mid high : ℕ) (last : Option BlockLine) (empties : List ℕ) : Type 0 where
  own : IsFrom U low mid (feeds (own_break last))
  since : IsFrom U mid high (feeds empties)

-- ---- the end of the rows

last-in : (low high at : ℕ) (cs : List Cell) → AreClimbing low high cs → at ≤ low → (at ≤ last_end cs at) × (last_end cs at ≤ high)
last-in low high at [] h a = (omega arith, omega (arith, h, a))
last-in low high at (c ∷ cs) h a =
    let k = last-in (c.1 + 1) high (c.1 + 1) cs h.1 (omega arith) in
    let b = h.0 in
    let first = k.0 in
    (omega (arith, first, b, a), k.1)

before-climbing : (low high end at : ℕ) (cs : List Cell) → AreClimbing low high cs → last_end cs at ≤ end → AreBefore end cs
before-climbing low high end at [] h a = tt
before-climbing low high end at (c ∷ cs) h a = ((λ _. let k = (last-in (c.1 + 1) high (c.1 + 1) cs h.1 (omega arith)).0 in omega (arith, k, a)), before-climbing (c.1 + 1) high end (c.1 + 1) cs h.1 a)

last-after : (low high at : ℕ) (cs : List Cell) → AreClimbing low high cs → is_empty cs ≡ false → low < last_end cs at
last-after low high at [] h e = absurd cc
last-after low high at (c ∷ cs) h e = let k = (last-in (c.1 + 1) high (c.1 + 1) cs h.1 (omega arith)).0 in let b = h.0 in omega (arith, k, b)

module _ (U : Type 0) where
  abbrev AreRows : ℕ → ℕ → List BlockLine → Type 0
  AreRows low high [] = low ≤ high
  AreRows low high (r ∷ rs) = IsRest U low (break_at high r.break) r.text × IsFrom U (break_at high r.break) (break_after high r.break) (feeds r.break) × AreRows (break_after high r.break) high rs

  abbrev IsRowText : ℕ → ℕ → Option (List Cell) → Type 0
  IsRowText low end None = Unit {0}
  IsRowText low end (Some text) = IsRest U low end text

  drop-rest : (m low end : ℕ) (cs : List Cell) → nat_le m (indent cs) ≡ true → IsRest U low end cs → IsRest U low end (drop m cs)
  drop-rest zero low end cs e h = h
  drop-rest (suc m) low end [] e h = h
  drop-rest (suc m) low end (c ∷ cs) e h =
      let step : (c.0 < 128) × (nat_le m (indent cs) ≡ true) = (grind (arith, nat_tests), grind (arith, nat_tests)) in
      drop-rest m low end cs step.1 (rest-lower (omega (arith, h.climbing.0)) (rest-after step.0 h))

  row-from : (m : Option ℕ) (found : Bool) (low end : ℕ) (cs : List Cell) → IsRest U low end cs → IsRowText low end (row_of m found cs)
  row-from m found low end cs h = by-indent m
    where
      none : IsRest U low end []
      none = record { climbing = climbing-order low end cs h.climbing; text = λ _. IsUtf8-nil }

      by-indent : (m : Option ℕ) → IsRowText low end (row_of m found cs)
      by-indent None = choose (IsRowText low end) (is_all_blank cs) (λ _. none) (λ _. tt)
      by-indent (Some m) =
          choose (IsRowText low end) (is_all_blank cs && not found) (λ _. none)
          (λ _. choose (IsRowText low end) (nat_le m (indent cs)) (λ e. drop-rest m low end cs e h)
          (λ _. choose (IsRowText low end) (is_all_blank cs) (λ _. none) (λ _. tt)))

  abbrev IsRows : ℕ → ℕ → Rows → Type 0
  IsRows size low rs = AreRows low (start rs.left) rs.rows × AreLeft size U low rs.left

  rows-by : (size low : ℕ) (l : Line) (ls : List Line) (below : Rows) → AreLeft size U low (l ∷ ls)
      → (AreLeft size U (l.end + 1) ls → IsRows size (l.end + 1) below) → (o : Option (List Cell)) → IsRowText low l.end o
      → IsRows size low (elim o [
        | None ↦ record { rows = []; left = l ∷ ls }
        | Some text ↦ (if l.last then record { rows = record { text = text; break = [] } ∷ []; left = at_end l }
            else with_row (record { text = text; break = l.end ∷ [] }) below)
      ])
  rows-by size low l ls below h more None k = (start-after size low (l ∷ ls) h.stand, h)
  rows-by size low l ls below h more (Some text) k = choose (IsRows size low) l.last
      (λ _. ((k, from-none (omega arith), omega arith), left-at_end h))
      (λ e. let m = more (left-later e h) in
      let line = climbing-order low l.end l.text h.stand.0.0 in
      ((k, from-ascii (omega arith) (omega arith), m.0), left-lower (omega (arith, line)) m.1))

  rows-from : (size : ℕ) (m : Option ℕ) (found : Bool) (low : ℕ) (ls : List Line) → AreLeft size U low ls → IsRows size low (rows_at m found ls)
  rows-from size m found low [] h = absurd h.stand.0
  rows-from size m found low (l ∷ ls) h =
      let next = found || not (is_all_blank l.text) in
      rows-by size low l ls (rows_at m next ls) h (λ k. rows-from size m next (l.end + 1) ls k) (row_of m found l.text)
      (row-from m found low l.end l.text (left-first h))

  -- ---- the text of the rows

  -- the cells are in order between two offsets, and before `end` except for line feeds
  record AreGiven (low high end : ℕ) (cs : List Cell) : Type 0 where
    from : IsFrom U low high cs
    before : AreBefore end cs

  given-join : {low mid high end : ℕ} {xs ys : List Cell} → AreGiven low mid end xs → AreGiven mid high end ys → AreGiven low high end (xs ++ ys)
  given-join {low} {mid} {high} {end} {xs} {ys} h k = record { from = from-join h.from k.from; before = join xs h.before }
    where
      join : (xs : List Cell) → AreBefore end xs → AreBefore end (xs ++ ys)
      join [] h = k.before
      join (c ∷ cs) h = (h.0, join cs h.1)

  given-feeds : {low high end : ℕ} (ats : List ℕ) → IsFrom U low high (feeds ats) → AreGiven low high end (feeds ats)
  given-feeds {low} {high} {end} ats h = record { from = h; before = before ats }
    where
      before : (ats : List ℕ) → AreBefore end (feeds ats)
      before [] = tt
      before (a ∷ ats) = ((λ n. absurd (n refl)), before ats)

  final_breaks-given : {low mid high end : ℕ} {last : Option BlockLine} {empties : List ℕ} (k : Chomping) → ArePending U low mid high last empties
      → AreGiven low high end (final_breaks k (own_break last) empties)
  final_breaks-given Strip h = let a = from-order h.own in let b = from-order h.since in given-feeds [] (from-none (omega (arith, a, b)))
  final_breaks-given {last = last} Clip h = given-feeds (own_break last) (from-wider (omega arith) (from-order h.since) h.own)
  final_breaks-given {last = last} {empties = empties} Keep h = given-feeds (own_break last ++ empties) (from-feeds (own_break last) empties h.own h.since)

  between-given : {low mid high end : ℕ} (own empties : List ℕ) → IsFrom U low mid (feeds own) → IsFrom U mid high (feeds empties) → high ≤ end
      → AreGiven low high end (between_rows own empties)
  between-given [] empties h k a = given-feeds empties (from-wider (from-order h) (omega arith) k)
  between-given (e ∷ es) [] h k a =
      let b = h.rising.1 in
      let c = from-order k in
      record { from = from-folded [] h.rising.0 b k; before = ((λ _. omega (arith, a, b, c)), tt) }
  between-given (e ∷ es) (x ∷ xs) h k a = given-feeds (x ∷ xs) (from-wider (from-order h) (omega arith) k)

  joint-given : {low mid high end : ℕ} (is_literal : Bool) (last : Option BlockLine) (empties : List ℕ) (next : BlockLine)
      → ArePending U low mid high last empties → high ≤ end → AreGiven low high end (joint is_literal last empties next)
  joint-given is_literal None empties next h a = given-feeds empties (from-wider (from-order h.own) (omega arith) h.since)
  joint-given {low} {mid} {high} {end} is_literal (Some r) empties next h a =
      choose (AreGiven low high end) (is_literal || begins_blank r.text || begins_blank next.text)
      (λ _. given-feeds (r.break ++ empties) (from-feeds r.break empties h.own h.since)) (λ _. between-given r.break empties h.own h.since a)

  rows-end : (at next high : ℕ) (rs : List BlockLine) → AreRows next high rs → at ≤ next → (at ≤ rows_end at rs) × (rows_end at rs ≤ high)
  rows-end at next high [] h a = (omega arith, omega (arith, h, a))
  rows-end at next high (r ∷ rs) h a =
      let own = last-in next (break_at high r.break) at r.text h.0.climbing a in
      let first = own.0 in
      let last = own.1 in
      let break = from-order h.1 in
      let more = rows-end (last_end r.text at) (break_after high r.break) high rs h.2 (omega (arith, last, break)) in
      (omega (arith, first, more.0), more.1)

  text-given : (is_literal : Bool) (k : Chomping) (low mid next high : ℕ) (last : Option BlockLine) (empties : List ℕ) (at : ℕ) (rs : List BlockLine)
      → ArePending U low mid next last empties → AreRows next high rs → at ≤ next → AreGiven low high (rows_end at rs) (text_after is_literal k last empties rs)
  text-given is_literal k low mid next high last empties at [] h rows a =
      final_breaks-given {last = last} k (record { own = h.own; since = from-wider (omega arith) rows h.since })
  text-given is_literal k low mid next high last empties at (r ∷ rs) h rows a =
      let break = break_at high r.break in
      let after = break_after high r.break in
      let now = last_end r.text at in
      let end = rows_end now rs in
      let line = climbing-order next break r.text rows.0.climbing in
      let order = from-order rows.1 in
      let below = (last-in next break at r.text rows.0.climbing a).1 in
      let inside : now ≤ after = omega (arith, order, below) in
      let ends = (rows-end now after high rs rows.2 inside).0 in
      choose (AreGiven low high end) (is_empty r.text)
      (λ _. text-given is_literal k low mid after high last (empties ++ r.break) now rs
      (record { own = h.own; since = from-feeds empties r.break h.since (from-wider line (omega arith) rows.1) }) rows.2 inside)
      (λ e. let first = last-after next break at r.text rows.0.climbing e in
      let text : AreGiven next break end r.text = record { from = from-rest rows.0; before = before-climbing next break end at r.text rows.0.climbing ends } in
      let more : AreGiven break high end (text_after is_literal k (Some r) [] rs) =
      text-given is_literal k break after after high (Some r) [] now rs (record { own = rows.1; since = from-none (omega arith) }) rows.2 inside in
      given-join (given-join (joint-given is_literal last empties r h (omega (arith, first, ends))) text) more)

-- ---- the header

-- The offset of a line's first cell is at most its end.
place-first : (low end : ℕ) (cs : List Cell) → AreClimbing low end cs → place cs 0 ≤ end
place-first low end [] h = omega arith
place-first low end (c ∷ cs) h = let k = climbing-order (c.1 + 1) end cs h.1 in omega (arith, k)

abbrev HeaderIn : ℕ → ℕ → Result Header FaultAt → Type 0
HeaderIn low end (Ok h) = (low ≤ h.end) × (h.end ≤ end)
HeaderIn low end (Err e) = e.at ≤ end

header_end-in : (low at end : ℕ) (h : Header) (cs : List Cell) → low ≤ h.end → h.end ≤ end → AreClimbing at end cs
    → HeaderIn low end (header_end h cs)
header_end-in low at end h cs a b k =
    choose (HeaderIn low end) (is_empty (after_blanks cs) || (begins_blank cs && is_comment cs)) (λ _. (a, b))
    (λ _. place-first at end (after_blanks cs) (climbing-blanks at end cs k))

header-in : (digit : Option ℕ) (sign : Option Chomping) (low at end : ℕ) (cs : List Cell) → low ≤ at → AreClimbing at end cs
    → HeaderIn low end (header digit sign at cs)
header-in digit sign low at end [] a h = header_end-in low at end (record { digit = digit; chomping = unwrap_or sign Clip; end = at }) [] a h h
header-in digit sign low at end (c ∷ cs) a h =
    let b = climbing-order (c.1 + 1) end cs h.1 in
    let f = h.0 in
    let more = climbing-lower (c.1 + 1) (at + 1) end cs (omega (arith, f)) h.1 in
    choose (HeaderIn low end) (is_none digit && is_digit c.0) (λ _. header-in (Some (c.0 - 48)) sign low (at + 1) end cs (omega (arith, a)) more)
    (λ _. choose (HeaderIn low end) (is_none sign && is_sign c.0) (λ _. header-in digit (Some (chomping_of c.0)) low (at + 1) end cs (omega (arith, a)) more)
    (λ _. header_end-in low at end (record { digit = digit; chomping = unwrap_or sign Clip; end = at }) (c ∷ cs) a (omega (arith, b, f)) h))

pub after-indicator : (q low end : ℕ) (cs : List Cell) → begins q cs ≡ true → AreClimbing low end cs → AreClimbing (place cs end + 1) end (drop 1 cs)
after-indicator q low end [] e h = absurd cc
after-indicator q low end (c ∷ cs) e h = h.1

-- ---- the scalar

module _ (size : ℕ) (U : Type 0) where
  -- The text is from before the remaining lines and, except for line feeds, from before the scalar's end. A fault is in the file.
  abbrev pub IsBlockTaken : ℕ → Result Taken FaultAt → Type 0
  IsBlockTaken low (Ok t) = IsFrom U low (start t.left) t.text × AreBefore t.end t.text × (low ≤ t.end) × AreLeft size U t.end t.left
  IsBlockTaken low (Err e) = e.at ≤ size

  block-by : (is_literal : Bool) (within low : ℕ) (l : Line) (ls : List Line) → AreLeft size U low (l ∷ ls) → (r : Result Header FaultAt) → HeaderIn low l.end r
      → IsBlockTaken low (r >>= (λ h.
      let m = content_indent h.digit within ls in
      let rs = (if l.last then record { rows = []; left = at_end l } else rows_at m (is_some h.digit) ls) in
      Ok (record { text = text_after is_literal h.chomping None [] rs.rows; end = rows_end h.end rs.rows; left = rs.left })))
  block-by is_literal within low l ls k (Err e) r = let a = k.stand.1.0 in omega (arith, r, a)
  block-by is_literal within low l ls k (Ok h) r =
      let m = content_indent h.digit within ls in
      let rs : Rows = (if l.last then record { rows = []; left = at_end l } else rows_at m (is_some h.digit) ls) in
      let line = climbing-order low l.end l.text k.stand.0.0 in
      let rows : IsRows U size l.end rs = choose (IsRows U size l.end) l.last
      (λ _. (omega arith, left-at_end (left-cut {cs = []} (record { climbing = omega arith; text = λ _. IsUtf8-nil }) k)))
      (λ e. rows-from U size m (is_some h.digit) l.end ls (left-lower (omega arith) (left-later e k))) in
      let none : ArePending U low l.end l.end None [] = record { own = from-none line; since = from-none (omega arith) } in
      let end = rows-end U h.end l.end (start rs.left) rs.rows rows.0 r.1 in
      let text = text-given U is_literal h.chomping low l.end l.end (start rs.left) None [] h.end rs.rows none rows.0 r.1 in
      let a = r.0 in
      let b = end.0 in (
        text.from,
        text.before,
        omega (arith, a, b),
        record { stand = stand-higher size l.end (rows_end h.end rs.rows) rs.left end.1 rows.1.stand; utf8 = rows.1.utf8 },
      )

  pub block-from : (is_literal : Bool) (within low q : ℕ) (l : Line) (ls : List Line) → begins q l.text ≡ true → AreLeft size U low (l ∷ ls)
      → IsBlockTaken (place l.text l.end) (block_scalar is_literal within (l ∷ ls))
  block-from is_literal within low q l ls e h =
      let at = place l.text l.end in
      block-by is_literal within at l ls (left-start h) (header None None (at + 1) (drop 1 l.text))
      (header-in None None at (at + 1) l.end (drop 1 l.text) (omega arith) (after-indicator q low l.end l.text e h.stand.0.0))
