-- Literal characters of a quoted scalar in terms of offsets.
use Rattle.std.proofs.Common.{◌≡◌, ℕ, ◌+◌, ◌≤◌, List, [], ◌∷◌, ◌++◌, length, slice_index, sym, ap, subst, ◌∙◌, append-nil}
use Rattle.al_scalar.specs.Line.{Cell}
use Rattle.al_scalar.specs.Taken.{before}
use Rattle.al_scalar.specs.Quoted.{part_before}
use Rattle.al_scalar.specs.Places.{lines_at, text_at}
use Rattle.al_scalar.specs.LineEnds.{cells_between, with_cells_before, AreBlank, IsBlankByte, IsLineEnd, SameLine}
use Rattle.al_scalar.specs.Private.QuotedRead.{part_in, quoted_in, IsMarkByte, ReadsOn}
use Rattle.al_scalar.specs.declared.quoted.Quotes.{Quotes}
use Rattle.al_scalar.proofs.LineLemmas.{cells_between-more}
use Rattle.al_scalar.proofs.LineCells.{lines_at-some, RunBefore, run_at, cell_at, text-line_end, IsInside}
use Rattle.al_scalar.proofs.FoldLemmas.{before-two}
use Rattle.al_scalar.proofs.PlainLemmas.{cells_between-two}
use Rattle.al_scalar.proofs.QuotedLemmas.{gives_nothing, quoted-run}
use Rattle.al_scalar.proofs.PartLemmas.{part-end, part-blanks, part-run, part-byte, part-some}

-- ---- reading from one offset to another

module _ (quotes : Quotes) (bytes : List ℕ) where
  pub reads_on : (i j : ℕ) (run : List Cell) → SameLine (lines_at bytes i) (lines_at bytes j)
      → part_in quotes (text_at bytes i) ≡ part_before run (part_in quotes (text_at bytes j)) → ReadsOn quotes bytes i run j
  reads_on i j run s e = λ q. quoted-run (part_in quotes) q run (lines_at bytes i) (lines_at bytes j) (lines_at-some bytes i) (lines_at-some bytes j) s e

  pub reads-then : (i j k : ℕ) (xs ys : List Cell) → ReadsOn quotes bytes i xs j → ReadsOn quotes bytes j ys k → ReadsOn quotes bytes i (xs ++ ys) k
  reads-then i j k xs ys r s = λ q. r q ∙ ap (before xs) (s q) ∙ before-two xs ys (quoted_in quotes q (lines_at bytes k))

  pub reads-end : (i j k : ℕ) (xs : List Cell) → ReadsOn quotes bytes i xs j → ReadsOn quotes bytes j [] k → ReadsOn quotes bytes i xs k
  reads-end i j k xs r s = subst (λ cs. ReadsOn quotes bytes i cs k) (append-nil xs) (reads-then i j k xs [] r s)

  pub reads-more : (i j k : ℕ) → i ≤ j → j ≤ k → ReadsOn quotes bytes i (cells_between bytes i j) j → ReadsOn quotes bytes j (cells_between bytes j k) k
      → ReadsOn quotes bytes i (cells_between bytes i k) k
  reads-more i j k o p r s =
      subst (λ cs. ReadsOn quotes bytes i cs k) (sym (cells_between-two bytes i j k o p)) (reads-then i j k (cells_between bytes i j) (cells_between bytes j k) r s)

  -- the cells from i to j are blanks
  module _ (i j : ℕ) (blanks : AreBlank (cells_between bytes i j)) (lines : lines_at bytes i ≡ with_cells_before (cells_between bytes i j) (lines_at bytes j)) where
    reached : RunBefore (cells_between bytes i j) (lines_at bytes i) (lines_at bytes j)
    reached = run_at bytes i j (cells_between bytes i j) lines

    -- Blanks at the end of a line are dropped.
    pub reads-blanks : j ≤ length bytes → IsLineEnd bytes j → ReadsOn quotes bytes i [] j
    reads-blanks h k =
        let none : text_at bytes j ≡ [] = text-line_end bytes j h k in
        reads_on i j [] reached.same
        (ap (part_in quotes) (reached.text ∙ ap (λ t. cells_between bytes i j ++ t) none ∙ append-nil (cells_between bytes i j))
        ∙ part-blanks quotes (cells_between bytes i j) blanks
        ∙ sym (ap (λ t. part_before [] (part_in quotes t)) none ∙ ap (part_before []) (part-end quotes)))

    -- Blanks before another character are kept.
    pub reads-run : IsInside bytes j → (IsBlankByte (slice_index bytes j) → ⊥) → ReadsOn quotes bytes i (cells_between bytes i j) j
    reads-run h n =
        let cell = cell_at bytes j h.inside h.not_feed h.not_return in
        reads_on i j (cells_between bytes i j) reached.same
        (ap (part_in quotes) reached.text
        ∙ part-run quotes (cells_between bytes i j) (text_at bytes j) blanks
        (ap (λ t. gives_nothing (part_in quotes t)) cell.text ∙ part-some quotes (slice_index bytes j, j) (text_at bytes (j + 1)) n))

    pub reads-byte : i ≤ j → IsInside bytes j → (IsBlankByte (slice_index bytes j) → ⊥) → (IsMarkByte quotes (slice_index bytes j) → ⊥)
        → ReadsOn quotes bytes i (cells_between bytes i (j + 1)) (j + 1)
    reads-byte o h n m =
        let cell = cell_at bytes j h.inside h.not_feed h.not_return in
        let own : ReadsOn quotes bytes j ((slice_index bytes j, j) ∷ []) (j + 1) = reads_on j (j + 1) ((slice_index bytes j, j) ∷ []) cell.same
        (ap (part_in quotes) cell.text ∙ part-byte quotes (slice_index bytes j, j) (text_at bytes (j + 1)) n m) in
        let both : ReadsOn quotes bytes i (cells_between bytes i j ++ (slice_index bytes j, j) ∷ []) (j + 1) = reads-then i j (j + 1)
        (cells_between bytes i j) ((slice_index bytes j, j) ∷ []) (reads-run h n) own in
        subst (λ cs. ReadsOn quotes bytes i cs (j + 1)) (sym (cells_between-more bytes i j o)) both
