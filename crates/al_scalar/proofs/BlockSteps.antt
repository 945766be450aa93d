-- A block scalar from its indicator: the header, and then the rows.
use Rattle.std.proofs.Common.{◌≡◌, ℕ, ◌+◌, List, [], ◌∷◌, length, drop, refl, ap, ◌∙◌, Bool, true, false, cond, Option, None, is_some, Result, Ok, Err}
use Rattle.al_scalar.specs.Line.{Cell, Line, place}
use Rattle.al_scalar.specs.Taken.{Taken, ◌>>=◌, with_text}
use Rattle.al_scalar.specs.declared.faults.FaultAt.{FaultAt}
use Rattle.al_scalar.specs.Places.{first_text, first_end, lines_at}
use Rattle.al_scalar.specs.LineEnds.{broken_line, SameLine, first_last, later}
use Rattle.al_scalar.specs.Block.{Rows, header, content_indent, rows_at, block_scalar}
use Rattle.al_scalar.specs.declared.header.Chomping.{Chomping}
use Rattle.al_scalar.specs.declared.header.Header.{Header}
use Rattle.al_scalar.specs.Private.BlockRead.{rest}
use Rattle.al_scalar.proofs.LineCells.{has_line, cell_at, lines-at_end, lines_at-some, IsInside}
use Rattle.al_scalar.proofs.RowLemmas.{of_rows, final_breaks-none}

-- the rows after the first line, which has header h
abbrev pub rows_after : ℕ → List Line → Header → Rows
rows_after within xs h =
    cond (first_last xs) (record { rows = []; left = record { text = []; end = first_end xs; last = true } ∷ [] })
    (rows_at (content_indent h.digit within (later xs)) (is_some h.digit) (later xs))

abbrev pub body : Bool → ℕ → List Line → Header → Result Taken FaultAt
body lit within xs h = Ok (of_rows lit h.chomping None [] h.end (rows_after within xs h))

block-body : (lit : Bool) (within : ℕ) (xs : List Line) → has_line xs ≡ true
    → block_scalar lit within xs ≡ (header None None (place (first_text xs) (first_end xs) + 1) (drop 1 (first_text xs)) >>= body lit within xs)
block-body lit within [] h = cc
block-body lit within (l ∷ ls) h = refl

module _ (lit : Bool) (within : ℕ) (bytes : List ℕ) (at : ℕ) (here : IsInside bytes at) (end : ℕ) (given : Result Header FaultAt)
    (e : header None None (at + 1) (first_text (lines_at bytes (at + 1))) ≡ given) where
  block-given : block_scalar lit within (lines_at bytes at) ≡ (given >>= body lit within (lines_at bytes at))
  block-given =
      let xs = lines_at bytes at in
      block-body lit within xs (lines_at-some bytes at)
      ∙ ap (λ t. header None None (place t (first_end xs) + 1) (drop 1 t) >>= body lit within xs) (cell_at bytes at here.inside here.not_feed here.not_return).text
      ∙ ap (λ r. r >>= body lit within xs) e

  pub block-fault : (f : FaultAt) → given ≡ Err f → block_scalar lit within (lines_at bytes at) ≡ Err f
  block-fault f g = block-given ∙ ap (λ r. r >>= body lit within (lines_at bytes at)) g

  first-same : SameLine (lines_at bytes at) (lines_at bytes (at + 1))
  first-same = (cell_at bytes at here.inside here.not_feed here.not_return).same

  -- the header's line is the last one of the file
  pub block-last : (h : Header) (new : List Cell) (stop : ℕ) → given ≡ Ok h → SameLine (lines_at bytes (at + 1)) (lines_at bytes end) → SameLine (lines_at bytes end) (lines_at bytes stop)
      → stop ≡ length bytes → new ≡ [] → block_scalar lit within (lines_at bytes at) ≡ Ok (record { text = new; end = h.end; left = lines_at bytes stop })
  block-last h new stop g s u z n =
      let xs = lines_at bytes at in
      let at_stop = lines-at_end bytes stop z in
      let ended : first_end xs ≡ stop = first-same.end ∙ s.end ∙ u.end ∙ ap first_end at_stop in
      let is_last : first_last xs ≡ true = first-same.last ∙ s.last ∙ u.last ∙ ap first_last at_stop in
      block-given ∙ rw (g, is_last, ended, n, final_breaks-none h.chomping, at_stop) refl

  -- there are lines after the header's
  pub block-more : (h : Header) (stop first : ℕ) → given ≡ Ok h → SameLine (lines_at bytes (at + 1)) (lines_at bytes end) → SameLine (lines_at bytes end) (lines_at bytes stop)
      → lines_at bytes stop ≡ broken_line stop ∷ lines_at bytes first
      → block_scalar lit within (lines_at bytes at)
      ≡ Ok (rest lit h.chomping (content_indent h.digit within (lines_at bytes first)) (is_some h.digit) None [] h.end (lines_at bytes first))
  block-more h stop first g s u z =
      let xs = lines_at bytes at in
      let is_last : first_last xs ≡ false = first-same.last ∙ s.last ∙ u.last ∙ ap first_last z in
      let after : later xs ≡ lines_at bytes first = first-same.later ∙ s.later ∙ u.later ∙ ap later z in
      block-given ∙ rw (g, is_last, after) refl

-- the rest of the scalar, with the indent, the empty lines and the text as the code holds them
pub rest-style : (lit : Bool) (k : Chomping) (m m' : Option ℕ) (b b' : Bool) (es : List ℕ) (end : ℕ) (old : List Cell) (ls : List Line)
    → m' ≡ m → b' ≡ b → es ≡ [] → old ≡ [] → rest lit k m b None [] end ls ≡ with_text old (rest lit k m' b' None es end ls)
rest-style lit k m m' b b' es end old ls g h e n =
    rw (g, h, e, n) refl
