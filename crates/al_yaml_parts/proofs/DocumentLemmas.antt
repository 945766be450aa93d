-- The markers round a document against offsets.
use Rattle.std.proofs.Common.{◌≡◌, ℕ, ◌+◌, ◌<◌, ◌≤◌, List, [], ◌∷◌, length, drop, slice_index, refl, sym, ap, ◌∙◌, arith, true, false}
use Rattle.al_scalar.specs.Line.{Cell, Line, cut, is_empty, is_marker, past}
use Rattle.al_scalar.specs.Places.{lines_at, text_at}
use Rattle.al_scalar.specs.LineEnds.{IsLineEnd}
use Rattle.al_yaml_parts.proofs.LineLemmas.{past-one}
use Rattle.al_scalar.proofs.LineCells.{text-line_end, never, IsInside, is_inside}
use Rattle.al_scalar.proofs.PlainLemmas.{text_at-cell}

-- ---- markers

marker-some : (b : ℕ) (t : List Cell) → true ≡ is_marker b t → false ≡ is_empty t
marker-some b [] h = sym h
marker-some b (c ∷ t) h = refl

marker-two : (b : ℕ) (c : Cell) (t : List Cell) → true ≡ is_marker b (c ∷ t) → false ≡ is_empty t
marker-two b c [] h = sym h
marker-two b c (d ∷ t) h = refl

marker-three : (b : ℕ) (c d : Cell) (t : List Cell) → true ≡ is_marker b (c ∷ d ∷ t) → false ≡ is_empty t
marker-three b c d [] h = sym h
marker-three b c d (e ∷ t) h = refl

-- a byte of the line
record IsByteOfLine (bytes : List ℕ) (i : ℕ) : Type 0 where
  inside : i < length bytes
  past : past 1 (lines_at bytes i) ≡ lines_at bytes (i + 1)
  text : text_at bytes i ≡ (slice_index bytes i, i) ∷ text_at bytes (i + 1)

byte_of_line : (bytes : List ℕ) (i : ℕ) → i ≤ length bytes → false ≡ is_empty (text_at bytes i) → IsByteOfLine bytes i
byte_of_line bytes i h k =
    let solid : IsLineEnd bytes i → ⊥ = λ e. never (k ∙ ap is_empty (text-line_end bytes i h e)) in
    let here : IsInside bytes i = is_inside bytes i h solid in
    record { inside = here.inside; past = past-one bytes i h solid; text = text_at-cell bytes i h solid }

drop-three : (t : List Cell) → drop 3 t ≡ drop 1 (drop 1 (drop 1 t))
drop-three [] = refl
drop-three (c ∷ []) = refl
drop-three (c ∷ d ∷ []) = refl
drop-three (c ∷ d ∷ e ∷ t) = refl

past-three : (ls : List Line) → past 3 ls ≡ past 1 (past 1 (past 1 ls))
past-three [] = refl
past-three (l ∷ ls) = ap (λ t. cut t l ls) (drop-three l.text)

module _ (bytes : List ℕ) (i b : ℕ) (h : i ≤ length bytes) (m : true ≡ is_marker b (text_at bytes i)) where
  pub marker-after : (past 3 (lines_at bytes i) ≡ lines_at bytes (i + 3)) × (i + 3 ≤ length bytes)
  marker-after =
      let one : IsByteOfLine bytes i = byte_of_line bytes i h (marker-some b (text_at bytes i) m) in
      let in_one : i < length bytes = one.inside in
      let first : Cell = (slice_index bytes i, i) in
      let m_two : true ≡ is_marker b (first ∷ text_at bytes (i + 1)) = m ∙ ap (is_marker b) one.text in
      let two : IsByteOfLine bytes (i + 1) = byte_of_line bytes (i + 1) (omega arith) (marker-two b first (text_at bytes (i + 1)) m_two) in
      let in_two : i + 1 < length bytes = two.inside in
      let second : Cell = (slice_index bytes (i + 1), i + 1) in
      let m_three : true ≡ is_marker b (first ∷ second ∷ text_at bytes (i + 1 + 1)) = m_two ∙ ap (λ t. is_marker b (first ∷ t)) two.text in
      let three : IsByteOfLine bytes (i + 1 + 1) = byte_of_line bytes (i + 1 + 1) (omega arith) (marker-three b first second (text_at bytes (i + 1 + 1)) m_three) in
      let in_three : i + 1 + 1 < length bytes = three.inside in
      let same : i + 1 + 1 + 1 ≡ i + 3 = omega arith in
      (past-three (lines_at bytes i) ∙ ap (λ ls. past 1 (past 1 ls)) one.past ∙ ap (past 1) two.past ∙ three.past ∙ ap (lines_at bytes) same, omega arith)
