-- The remaining lines of a file while it is read: they are at an offset or after it, and UTF-8 if the file is; a fault is within the file.
use Rattle.std.proofs.Common.{◌≡◌, ℕ, ◌+◌, ◌<◌, ◌≤◌, List, [], ◌∷◌, length, drop, arith, Bool, true, false}
use Rattle.std.proofs.Common.{Option, Some, None, Result, Ok, Err, IfOk}
use Rattle.std.proofs.lemmas.Str.{IsUtf8-nil}
use Rattle.std.specs.Prelude.{IsUtf8}
use Rattle.al_base.specs.Ascii.{ascii}
use Rattle.al_scalar.specs.Block.{at_end}
use Rattle.al_scalar.specs.Line.{Cell, Line, start, cut, after_blanks, after_spaces, begins, is_marker, is_document_marker, blanks_dropped, spaces_dropped, past}
use Rattle.al_scalar.specs.Offsets.{AreClimbing}
use Rattle.al_scalar.specs.Places.{first_text}
use Rattle.al_scalar.specs.Plain.{Context}
use Rattle.al_scalar.specs.Scalar.{ScalarRead, text_of, scalar_at}
use Rattle.al_scalar.specs.declared.faults.FaultAt.{FaultAt}
use Rattle.al_scalar.proofs.BlockOffsets.{after-indicator}
use Rattle.al_scalar.proofs.OffsetLemmas.{choose, climbing-order, climbing-blanks, climbing-drop}
use Rattle.al_scalar.proofs.Standing.{Stand, stand-lower, stand-start, start-after, start-in, stand-cut, stand-later, stand-at_end}
use Rattle.al_scalar.proofs.PlacedLemmas.{ReadsText, scalar-text}
use Rattle.al_scalar.proofs.Utf8Lemmas.{AreUtf8, keeps-blanks}
use Rattle.al_scalar.proofs.Utf8Texts.{IsText, after-text}
use Rattle.al_yaml_tree.specs.Content.{Next, ended, at_line, is_skipped, text_line, is_file_end, content_line, content, ends_line, line_ended, whole_lines}
use Rattle.al_yaml_tree.specs.Content.{is_dash, is_flow_start, is_property, anchor_cells, after_name}
use Rattle.al_yaml_tree.specs.Document.{first_line, document_start, ended_after, last_line, document_end}
use Rattle.al_yaml_tree.specs.Flow.{is_gap_line, gap}
use Rattle.al_yaml_tree.specs.Node.{scalar_node}
use Rattle.al_yaml_tree.specs.Spans.{IsPlacedIn}
use Rattle.al_yaml_tree.proofs.ScalarSpans.{Answers, ReadIn, scalar-in}
use Rattle.al_yaml_tree.proofs.TextLines.{dash-text, bracket-text, spaces-text, climbing-spaces, property-text, marker-text}

-- A file's size, whether it is UTF-8, and whether no alias is read in it.
pub record File : Type 1 where
  pub size : ℕ
  pub is_utf8 : Type 0
  pub is_plain : Type 0

pub record AreLeft (f : File) (low : ℕ) (ls : List Line) : Type 0 where
  pub stand : Stand f.size low ls
  pub utf8 : f.is_utf8 → AreUtf8 ls

-- a scalar at `low` or later, and the remaining lines after it
pub record IsRead (f : File) (low : ℕ) (r : ScalarRead) : Type 0 where
  pub placed : IsPlacedIn f.size low r.scalar.span.end (scalar_node r)
  pub text : f.is_utf8 → IsUtf8 (text_of r.scalar)
  pub left : AreLeft f r.scalar.span.end r.left

abbrev pub NextLeft : File → ℕ → Next → Type 0
NextLeft f low ended = Unit {0}
NextLeft f low (at_line i left) = AreLeft f low left

abbrev pub OptionLeft : File → ℕ → Option (List Line) → Type 0
OptionLeft f low None = Unit {0}
OptionLeft f low (Some ls) = AreLeft f low ls

abbrev pub Anything : Unit {0} → Type 0
Anything x = Unit {0}

both-read : (f : File) (low : ℕ) (r : Result ScalarRead FaultAt) → Answers f.size (ReadIn f.size low) r → (f.is_utf8 → IfOk r ReadsText)
    → Answers f.size (IsRead f low) r
both-read f low (Ok r) h k = record { placed = h.placed; text = λ u. (k u).0; left = record { stand = h.left; utf8 = λ u. (k u).1 } }
both-read f low (Err e) h k = h

module _ {f : File} where
  -- ---- bounds

  pub left-lower : {low low' : ℕ} {ls : List Line} → low' ≤ low → AreLeft f low ls → AreLeft f low' ls
  left-lower {low} {low'} {ls} a h = record { stand = stand-lower f.size low low' ls a h.stand; utf8 = h.utf8 }

  pub left-start : {low : ℕ} {ls : List Line} → AreLeft f low ls → AreLeft f (start ls) ls
  left-start {low} {ls} h = record { stand = stand-start f.size low ls h.stand; utf8 = h.utf8 }

  pub starts-after : {low : ℕ} {ls : List Line} → AreLeft f low ls → low ≤ start ls
  starts-after {low} {ls} h = start-after f.size low ls h.stand

  pub starts-in : {low : ℕ} {ls : List Line} → AreLeft f low ls → start ls ≤ f.size
  starts-in {low} {ls} h = start-in f.size low ls h.stand

  pub is-inside : {low : ℕ} {ls : List Line} → AreLeft f low ls → low ≤ f.size
  is-inside h = omega (arith, starts-after h, starts-in h)

  -- ---- the first line cut, and the lines after it

  left-cut : {low at : ℕ} {l : Line} {ls : List Line} (cs : List Cell) → AreClimbing at l.end cs → (f.is_utf8 → IsText cs)
      → AreLeft f low (l ∷ ls) → AreLeft f at (cut cs l ls)
  left-cut {low} {at} {l} {ls} cs k t h = record { stand = stand-cut f.size low at cs l ls k h.stand; utf8 = λ u. (t u, (h.utf8 u).1) }

  left-at_end : {low : ℕ} {l : Line} {ls : List Line} → AreLeft f low (l ∷ ls) → AreLeft f low (at_end l)
  left-at_end {low} {l} {ls} h = record { stand = stand-at_end f.size low l ls h.stand; utf8 = λ u. (IsUtf8-nil, tt) }

  left-below : {low : ℕ} {l : Line} {ls : List Line} → l.last ≡ false → AreLeft f low (l ∷ ls) → AreLeft f low ls
  left-below {low} {l} {ls} e h =
      let a = climbing-order low l.end l.text h.stand.0.0 in
      left-lower (omega (arith, a)) (record { stand = stand-later f.size low l ls e h.stand; utf8 = λ u. (h.utf8 u).1 })

  -- ---- after blanks, spaces or characters are dropped

  pub left-whole : {low : ℕ} {ls : List Line} → AreLeft f low ls → AreLeft f low (whole_lines ls)
  left-whole {ls = []} h = h
  left-whole {low = low} {ls = l ∷ ls} h = choose (AreLeft f low) l.last (λ _. left-at_end h) (λ e. left-below e h)

  pub left-blanks : {low : ℕ} {ls : List Line} → AreLeft f low ls → AreLeft f low (blanks_dropped ls)
  left-blanks {ls = []} h = h
  left-blanks {low = low} {ls = l ∷ ls} h =
      left-cut (after_blanks l.text) (climbing-blanks low l.end l.text h.stand.0.0) (λ u. keeps-blanks l.text [] (h.utf8 u).0) h

  left-spaces : {low : ℕ} {ls : List Line} → AreLeft f low ls → AreLeft f low (spaces_dropped ls)
  left-spaces {ls = []} h = h
  left-spaces {low = low} {ls = l ∷ ls} h =
      left-cut (after_spaces l.text) (climbing-spaces low l.end l.text h.stand.0.0) (λ u. spaces-text l.text (h.utf8 u).0) h

  gap-left : (at_start : Bool) (low : ℕ) (ls : List Line) → AreLeft f low ls → AreLeft f low (gap at_start ls)
  gap-left at_start low [] h = h
  gap-left at_start low (l ∷ ls) h =
      choose (AreLeft f low) (is_gap_line at_start l.text)
      (λ _. choose (AreLeft f low) l.last (λ _. left-at_end h) (λ e. gap-left true low ls (left-below e h))) (λ _. left-blanks h)

  pub left-gap : {low : ℕ} {ls : List Line} → AreLeft f low ls → AreLeft f low (gap false ls)
  left-gap {low} {ls} h = gap-left false low ls h

  pub left-first : (q : ℕ) {low : ℕ} {ls : List Line} → q < 128 → begins q (first_text ls) ≡ true → AreLeft f low ls
      → AreLeft f (start ls + 1) (past 1 ls)
  left-first q {ls = []} a e h = absurd h.stand.0
  left-first q {low = low} {ls = l ∷ ls} a e h =
      left-cut (drop 1 l.text) (after-indicator q low l.end l.text e h.stand.0.0) (λ u. (after-text q l ls a e (h.utf8 u)).0) h

  left-after : (k : ℕ) {low : ℕ} {ls : List Line} → (IsText (first_text ls) → IsText (drop k (first_text ls))) → AreLeft f low ls
      → AreLeft f low (past k ls)
  left-after k {ls = []} g h = h
  left-after k {low = low} {ls = l ∷ ls} g h = left-cut (drop k l.text) (climbing-drop k low l.end l.text h.stand.0.0) (λ u. g (h.utf8 u).0) h

  pub left-dash : {low : ℕ} {ls : List Line} → is_dash (first_text ls) ≡ true → AreLeft f low ls → AreLeft f low (past 1 ls)
  left-dash {low} {ls} e h = left-after 1 (dash-text (first_text ls) e) h

  pub left-bracket : {low : ℕ} {ls : List Line} → is_flow_start (first_text ls) ≡ true → AreLeft f low ls → AreLeft f low (past 1 ls)
  left-bracket {low} {ls} e h = left-after 1 (bracket-text (first_text ls) e) h

  pub left-name : {low : ℕ} {ls : List Line} → is_property (first_text ls) ≡ true → AreLeft f low ls → AreLeft f low (after_name ls)
  left-name {low} {ls} e h = left-after (length (anchor_cells (drop 1 (first_text ls))) + 1) (property-text (first_text ls) e) h

  -- after a colon, which may follow blanks
  pub left-colon : {low : ℕ} {ls : List Line} → begins (ascii ":") (after_blanks (first_text ls)) ≡ true → AreLeft f low ls
      → AreLeft f low (past 1 (blanks_dropped ls))
  left-colon {ls = []} e h = h
  left-colon {low = low} {ls = l ∷ ls} e h =
      let b = left-blanks h in
      let a = starts-after b in
      left-lower (omega (arith, a)) (left-first (ascii ":") (omega arith) e b)

  -- ---- scalars

  pub scalar-read : (p : Context) (low : ℕ) (ls : List Line) → AreLeft f low ls → Answers f.size (IsRead f low) (scalar_at p ls)
  scalar-read p low ls h = both-read f low (scalar_at p ls) (scalar-in f.size p low ls h.stand) (λ u. scalar-text f.size p low ls h.stand (h.utf8 u))

  -- ---- content lines

  content_line-in : (low : ℕ) (ls : List Line) → AreLeft f low ls → Answers f.size (NextLeft f low) (content_line ls)
  content_line-in low ls h =
      choose (Answers f.size (NextLeft f low)) (is_document_marker (first_text ls)) (λ _. tt)
      (λ _. choose (Answers f.size (NextLeft f low)) (begins (ascii "\t") (first_text (spaces_dropped ls)))
      (λ _. starts-in (left-spaces h)) (λ _. left-spaces h))

  left-text_line : {low : ℕ} (ls : List Line) → AreLeft f low ls → AreLeft f low (text_line ls)
  left-text_line [] h = h
  left-text_line {low} (l ∷ ls) h =
      choose (AreLeft f low) (is_skipped l.text)
      (λ _. choose (AreLeft f low) l.last (λ _. left-at_end h) (λ e. left-text_line ls (left-below e h))) (λ _. h)

  pub content-in : (low : ℕ) (ls : List Line) → AreLeft f low ls → Answers f.size (NextLeft f low) (content ls)
  content-in low ls h =
      choose (Answers f.size (NextLeft f low)) (is_file_end (text_line ls)) (λ _. tt)
      (λ _. content_line-in low (text_line ls) (left-text_line ls h))

  pub line_ended-in : (low : ℕ) (ls : List Line) → AreLeft f low ls → Answers f.size (AreLeft f low) (line_ended ls)
  line_ended-in low ls h =
      choose (Answers f.size (AreLeft f low)) (ends_line (first_text ls)) (λ _. left-whole h) (λ _. starts-in (left-blanks h))

  -- ---- the start and the end of a document

  first_line-in : (low : ℕ) (ls : List Line) → AreLeft f low ls → Answers f.size (AreLeft f low) (first_line ls)
  first_line-in low ls h =
      choose (Answers f.size (AreLeft f low)) (begins (ascii "%") (first_text ls)) (λ _. starts-in h)
      (λ _. choose (Answers f.size (AreLeft f low)) (is_marker (ascii "-") (first_text ls))
      (λ e. line_ended-in low (past 3 ls) (left-after 3 (marker-text (ascii "-") (first_text ls) (omega arith) e) h)) (λ _. h))

  pub document_start-in : (low : ℕ) (ls : List Line) → AreLeft f low ls → Answers f.size (AreLeft f low) (document_start ls)
  document_start-in low ls h = first_line-in low (text_line ls) (left-text_line ls h)

  ended_after-in : (low : ℕ) (ls : List Line) → AreLeft f low ls → Answers f.size Anything (ended_after ls)
  ended_after-in low ls h =
      choose (Answers f.size Anything) (is_file_end (text_line ls)) (λ _. tt) (λ _. starts-in (left-blanks (left-text_line ls h)))

  last_line-in : (low : ℕ) (ls : List Line) → AreLeft f low ls → Answers f.size Anything (last_line ls)
  last_line-in low ls h =
      choose (Answers f.size Anything) (is_marker (ascii "-") (first_text ls)) (λ _. starts-in h)
      (λ _. choose (Answers f.size Anything) (is_marker (ascii ".") (first_text ls))
      (λ e. ended_after-in low (past 3 ls) (left-after 3 (marker-text (ascii ".") (first_text ls) (omega arith) e) h))
      (λ _. choose (Answers f.size Anything) (begins (ascii "\t") (first_text (spaces_dropped ls)))
      (λ _. starts-in (left-spaces h)) (λ _. starts-in (left-spaces h))))

  pub document_end-in : (low : ℕ) (ls : List Line) → AreLeft f low ls → Answers f.size Anything (document_end ls)
  document_end-in low ls h =
      choose (Answers f.size Anything) (is_file_end (text_line ls)) (λ _. tt)
      (λ _. last_line-in low (text_line ls) (left-text_line ls h))
