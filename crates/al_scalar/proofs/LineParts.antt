-- Case analysis of the byte at an offset, and the lines after blanks, after spaces and at the end of a line.
use Rattle.std.proofs.Common.{◌≡◌, ◌≢◌, ℕ, ◌<◌, ◌≤◌, List, [], ◌∷◌, ◌++◌, length, slice_index, refl, sym, ap, ◌∙◌, inl, inr, ◌⊎◌, eq-or-lt_of_le, Bool, false, cond, eq-eqb, ◌==◌}
use Rattle.std.proofs.lemmas.Bool.{ne_eqb}
use Rattle.al_scalar.specs.Line.{Cell, Line, start, place, cut, is_blank, after_blanks, after_spaces, begins, begins_blank, blanks_dropped, spaces_dropped}
use Rattle.al_scalar.specs.Places.{first_text, first_end, lines_at, text_at}
use Rattle.al_scalar.specs.LineEnds.{cells_between, with_cells_before, AreBlank, AreSpaces, IsBlankByte, IsBreakByte, IsLineEnd, SameLine}
use Rattle.al_scalar.proofs.CellRuns.{drop-front}
use Rattle.al_scalar.proofs.LineCells.{text-line_end, is_blank-no, byte_kind}
use Rattle.al_scalar.proofs.FoldLemmas.{after_blanks-run}
use Rattle.al_scalar.proofs.RestLemmas.{text_kind, start-at}

not_break : (b : ℕ) → (b ≢ 10) × (b ≢ 13) → IsBreakByte b → ⊥
not_break b k (inl e) = k.0 e
not_break b k (inr e) = k.1 e

-- the offset is the end of the file, at a break, or at a byte of the line
pub data Kind (bytes : List ℕ) (i : ℕ) : Type 0 where
  at_file_end : i ≡ length bytes → Kind bytes i
  at_break : i < length bytes → IsBreakByte (slice_index bytes i) → Kind bytes i
  at_byte : i < length bytes → (IsLineEnd bytes i → ⊥) → Kind bytes i

kind-inside : (bytes : List ℕ) (i : ℕ) → i < length bytes → IsBreakByte (slice_index bytes i) ⊎ ((slice_index bytes i ≢ 10) × (slice_index bytes i ≢ 13)) → Kind bytes i
kind-inside bytes i l (inl k) = at_break l k
kind-inside bytes i l (inr k) = at_byte l (λ e. not_break (slice_index bytes i) k (e l))

pub kind : (bytes : List ℕ) (i : ℕ) → i ≤ length bytes → Kind bytes i
kind bytes i h = elim (eq-or-lt_of_le h) [ inl e ↦ at_file_end e | inr l ↦ kind-inside bytes i l (byte_kind (slice_index bytes i)) ]

-- ---- blanks

blanks_dropped-run : (run : List Cell) (ls : List Line) → AreBlank run → blanks_dropped (with_cells_before run ls) ≡ blanks_dropped ls
blanks_dropped-run run [] h = refl
blanks_dropped-run run (l ∷ ls) h = ap (λ t. cut t l ls) (after_blanks-run run l.text h)

after_blanks-stays : (t : List Cell) → begins_blank t ≡ false → after_blanks t ≡ t
after_blanks-stays [] h = refl
after_blanks-stays (c ∷ cs) h = drop-front is_blank c cs ∙ ap (λ b. cond b (after_blanks cs) (c ∷ cs)) h

pub blanks_dropped-stays : (ls : List Line) → begins_blank (first_text ls) ≡ false → blanks_dropped ls ≡ ls
blanks_dropped-stays [] h = refl
blanks_dropped-stays (l ∷ ls) h = ap (λ t. cut t l ls) (after_blanks-stays l.text h)

begins_blank-no : (bytes : List ℕ) (i : ℕ) → i ≤ length bytes → (i < length bytes → IsBlankByte (slice_index bytes i) → ⊥) → begins_blank (text_at bytes i) ≡ false
begins_blank-no bytes i h n = elim (text_kind bytes i h) [ inl e ↦ ap begins_blank e | inr k ↦ ap begins_blank k.1 ∙ is_blank-no (slice_index bytes i, i) (n k.0) ]

-- ---- spaces

abbrev is_space : Cell → Bool
is_space c = c.0 == 32

after_spaces-run : (run rest : List Cell) → AreSpaces run → after_spaces (run ++ rest) ≡ after_spaces rest
after_spaces-run [] rest h = refl
after_spaces-run (c ∷ cs) rest h =
    drop-front is_space c (cs ++ rest) ∙ ap (λ b. cond b (after_spaces (cs ++ rest)) (c ∷ (cs ++ rest))) (eq-eqb c.0 32 h.0)
    ∙ after_spaces-run cs rest h.1

spaces_dropped-run : (run : List Cell) (ls : List Line) → AreSpaces run → spaces_dropped (with_cells_before run ls) ≡ spaces_dropped ls
spaces_dropped-run run [] h = refl
spaces_dropped-run run (l ∷ ls) h = ap (λ t. cut t l ls) (after_spaces-run run l.text h)

after_spaces-stays : (t : List Cell) → begins 32 t ≡ false → after_spaces t ≡ t
after_spaces-stays [] h = refl
after_spaces-stays (c ∷ cs) h = drop-front is_space c cs ∙ ap (λ b. cond b (after_spaces cs) (c ∷ cs)) h

spaces_dropped-stays : (ls : List Line) → begins 32 (first_text ls) ≡ false → spaces_dropped ls ≡ ls
spaces_dropped-stays [] h = refl
spaces_dropped-stays (l ∷ ls) h = ap (λ t. cut t l ls) (after_spaces-stays l.text h)

begins_space-no : (bytes : List ℕ) (i : ℕ) → i ≤ length bytes → (i < length bytes → slice_index bytes i ≢ 32) → begins 32 (text_at bytes i) ≡ false
begins_space-no bytes i h n = elim (text_kind bytes i h) [ inl e ↦ ap (begins 32) e | inr k ↦ ap (begins 32) k.1 ∙ ne_eqb (slice_index bytes i) 32 (n k.0) ]

-- ---- the lines after such a run

module _ (bytes : List ℕ) (at i : ℕ) (inside : i ≤ length bytes) (run : lines_at bytes at ≡ with_cells_before (cells_between bytes at i) (lines_at bytes i)) where
  pub drops_blanks : AreBlank (cells_between bytes at i) → (i < length bytes → IsBlankByte (slice_index bytes i) → ⊥) → blanks_dropped (lines_at bytes at) ≡ lines_at bytes i
  drops_blanks blanks none =
      ap blanks_dropped run ∙ blanks_dropped-run (cells_between bytes at i) (lines_at bytes i) blanks
      ∙ blanks_dropped-stays (lines_at bytes i) (begins_blank-no bytes i inside none)

  pub drops_spaces : AreSpaces (cells_between bytes at i) → (i < length bytes → slice_index bytes i ≢ 32) → spaces_dropped (lines_at bytes at) ≡ lines_at bytes i
  drops_spaces spaces none =
      ap spaces_dropped run ∙ spaces_dropped-run (cells_between bytes at i) (lines_at bytes i) spaces
      ∙ spaces_dropped-stays (lines_at bytes i) (begins_space-no bytes i inside none)

-- ---- the end of a line

-- A line without text ends where it starts.
end-start : (ls : List Line) → first_text ls ≡ [] → first_end ls ≡ start ls
end-start [] h = refl
end-start (l ∷ ls) h = sym (ap (λ t. place t l.end) h)

pub end-here : (bytes : List ℕ) (i : ℕ) → i ≤ length bytes → IsLineEnd bytes i → first_end (lines_at bytes i) ≡ i
end-here bytes i h k = end-start (lines_at bytes i) (text-line_end bytes i h k) ∙ start-at bytes i h

pub end_further : (bytes : List ℕ) (at i : ℕ) → i ≤ length bytes → IsLineEnd bytes i → SameLine (lines_at bytes at) (lines_at bytes i) → first_end (lines_at bytes at) ≡ i
end_further bytes at i h k same = same.end ∙ end-here bytes i h k
