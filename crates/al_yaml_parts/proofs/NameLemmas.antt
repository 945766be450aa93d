-- Names of anchors against offsets.
use Rattle.std.proofs.Common.{◌≡◌, ℕ, zero, suc, ◌+◌, ◌-◌, ◌<◌, ◌≤◌, List, [], ◌∷◌, ◌++◌, length, map, take, drop, slice_index, refl, sym, ap, ◌∙◌, arith, Bool, true, false, ◌||◌, ◌==◌, cond, not}
use Rattle.std.proofs.lemmas.List.{append_assoc}
use Rattle.std.proofs.lemmas.Grind.{common_steps}
use Rattle.std.proofs.Math.Seq.{drop-cons}
use Rattle.al_scalar.specs.Line.{Cell, Line, cut, is_empty, is_blank, with_cell, past}
use Rattle.al_scalar.specs.Places.{first_end, lines_at, text_at}
use Rattle.al_scalar.specs.LineEnds.{cells_at, cells_between, with_cells_before, IsLineEnd}
use Rattle.al_scalar.specs.Plain.{is_flow_indicator}
use Rattle.al_scalar.proofs.CellRuns.{take-front}
use Rattle.al_scalar.proofs.LineLemmas.{cells_between-more, with_cells_before-more}
use Rattle.al_scalar.proofs.PlainLemmas.{text_at-cell}
use Rattle.al_scalar.proofs.LineCells.{is_inside, never, text-line_end}
use Rattle.al_yaml_tree.specs.Content.{anchor_cells, anchor_name, after_name, ends_name, has_no_name, is_property, same_line}
use Rattle.al_yaml_parts.proofs.LineLemmas.{first_cell, solid-lines}

abbrev is_name : Cell → Bool
is_name c = not (is_blank c || is_flow_indicator c.0)

name-cell : (c : Cell) (cs : List Cell) → false ≡ ends_name (c ∷ cs) → anchor_cells (c ∷ cs) ≡ c ∷ anchor_cells cs
name-cell c cs h = take-front is_name c cs ∙ ap (λ b. cond (not b) (c ∷ anchor_cells cs) []) (sym h)

not-empty : (cs : List Cell) → false ≡ ends_name cs → false ≡ is_empty cs
not-empty [] h = absurd (never h)
not-empty (c ∷ cs) h = refl

module _ (bytes : List ℕ) (i : ℕ) (inside : i ≤ length bytes) (more : false ≡ ends_name (text_at bytes i)) where
  here : text_at bytes i ≡ (slice_index bytes i, i) ∷ text_at bytes (i + 1)
  here = first_cell bytes i inside (not-empty (text_at bytes i) more)

  pub name-further : IsLineEnd bytes i → ⊥
  name-further e = never (not-empty (text_at bytes i) more ∙ ap is_empty (text-line_end bytes i inside e))

  pub name-inside : i < length bytes
  name-inside = (is_inside bytes i inside name-further).inside

  name-own : anchor_cells (text_at bytes i) ≡ (slice_index bytes i, i) ∷ anchor_cells (text_at bytes (i + 1))
  name-own = ap anchor_cells here ∙ name-cell (slice_index bytes i, i) (text_at bytes (i + 1)) (more ∙ ap ends_name here)

  module _ (at : ℕ) (from : at ≤ i) where
    pub name-more : anchor_cells (text_at bytes at) ≡ cells_between bytes at i ++ anchor_cells (text_at bytes i)
        → anchor_cells (text_at bytes at) ≡ cells_between bytes at (i + 1) ++ anchor_cells (text_at bytes (i + 1))
    name-more h =
        h ∙ ap (λ cs. cells_between bytes at i ++ cs) name-own
        ∙ sym (append_assoc (cells_between bytes at i) ((slice_index bytes i, i) ∷ []) (anchor_cells (text_at bytes (i + 1))))
        ∙ ap (λ cs. cs ++ anchor_cells (text_at bytes (i + 1))) (sym (cells_between-more bytes at i from))

    pub lines-more : lines_at bytes at ≡ with_cells_before (cells_between bytes at i) (lines_at bytes i)
        → lines_at bytes at ≡ with_cells_before (cells_between bytes at (i + 1)) (lines_at bytes (i + 1))
    lines-more h =
        h ∙ ap (with_cells_before (cells_between bytes at i)) (solid-lines bytes i inside name-further)
        ∙ sym (with_cells_before-more (cells_between bytes at i) (slice_index bytes i, i) (lines_at bytes (i + 1)))
        ∙ ap (λ cs. with_cells_before cs (lines_at bytes (i + 1))) (sym (cells_between-more bytes at i from))

-- ---- the name after an indicator

bytes-of : (bytes : List ℕ) (n i : ℕ) → i + n ≤ length bytes → map (λ (c : Cell). c.0) (cells_at bytes i n) ≡ take n (drop i bytes)
bytes-of bytes zero i h = refl
bytes-of bytes (suc n) i h =
    let here : drop i bytes ≡ slice_index bytes i ∷ drop (suc i) bytes = drop-cons bytes i 0 (omega (arith, h)) in
    ap (λ bs. slice_index bytes i ∷ bs) (bytes-of bytes n (suc i) (omega (arith, h))) ∙ ap (take (suc n)) (sym here)

past-cells : (cs : List Cell) (ls : List Line) → past (length cs) (with_cells_before cs ls) ≡ ls
past-cells cs [] = refl
past-cells cs (l ∷ ls) = ap (λ t. cut t l ls) (drop-all cs l.text)
  where
    drop-all : (cs ds : List Cell) → drop (length cs) (cs ++ ds) ≡ ds
    drop-all [] ds = refl
    drop-all (c ∷ cs) ds = drop-all cs ds

length-cells : (bytes : List ℕ) (n i : ℕ) → length (cells_at bytes i n) ≡ n
length-cells bytes zero i = refl
length-cells bytes (suc n) i = ap suc (length-cells bytes n (suc i))

same_number : (n : ℕ) → (n == n) ≡ true
same_number n = let e : n ≡ n = refl in grind (arith, common_steps, e)

first-end : (c : Cell) (ls : List Line) → first_end (with_cell c ls) ≡ first_end ls
first-end c [] = refl
first-end c (l ∷ ls) = refl

first-ends : (cs : List Cell) (ls : List Line) → first_end (with_cells_before cs ls) ≡ first_end ls
first-ends cs [] = refl
first-ends cs (l ∷ ls) = refl

module _ (bytes : List ℕ) (at end : ℕ) (inside : at ≤ length bytes) (solid : IsLineEnd bytes at → ⊥)
    (from : at + 1 ≤ end) (to : end ≤ length bytes)
    (cells : anchor_cells (text_at bytes (at + 1)) ≡ cells_between bytes (at + 1) end)
    (same : lines_at bytes (at + 1) ≡ with_cells_before (cells_between bytes (at + 1) end) (lines_at bytes end)) where
  past-first : text_at bytes at ≡ (slice_index bytes at, at) ∷ text_at bytes (at + 1)
  past-first = text_at-cell bytes at inside solid

  name-cells : anchor_cells (drop 1 (text_at bytes at)) ≡ cells_between bytes (at + 1) end
  name-cells = ap (λ cs. anchor_cells (drop 1 cs)) past-first ∙ cells

  pub name-is : anchor_name (lines_at bytes at) ≡ take (end - (at + 1)) (drop (at + 1) bytes)
  name-is = ap (map (λ (c : Cell). c.0)) name-cells ∙ bytes-of bytes (end - (at + 1)) (at + 1) (omega (arith, from, to))

  name-length : length (anchor_cells (drop 1 (text_at bytes at))) ≡ end - (at + 1)
  name-length = ap length name-cells ∙ length-cells bytes (end - (at + 1)) (at + 1)

  pub line-is : same_line (lines_at bytes at) (lines_at bytes end) ≡ true
  line-is =
      ap (λ e. e == first_end (lines_at bytes end))
      (ap first_end (solid-lines bytes at inside solid) ∙ first-end (slice_index bytes at, at) (lines_at bytes (at + 1)) ∙ ap first_end same
      ∙ first-ends (cells_between bytes (at + 1) end) (lines_at bytes end))
      ∙ same_number (first_end (lines_at bytes end))

  pub after_name-is : after_name (lines_at bytes at) ≡ lines_at bytes end
  after_name-is =
      ap (λ n. past (n + 1) (lines_at bytes at)) name-length
      ∙ ap (past (end - (at + 1) + 1)) (solid-lines bytes at inside solid)
      ∙ past-more (slice_index bytes at, at) (end - (at + 1)) (lines_at bytes (at + 1))
      ∙ ap (past (end - (at + 1))) same
      ∙ ap (λ n. past n (with_cells_before (cells_between bytes (at + 1) end) (lines_at bytes end))) (sym (length-cells bytes (end - (at + 1)) (at + 1)))
      ∙ past-cells (cells_between bytes (at + 1) end) (lines_at bytes end)
    where
      past-more : (c : Cell) (n : ℕ) (ls : List Line) → past (n + 1) (with_cell c ls) ≡ past n ls
      past-more c n [] = refl
      past-more c n (l ∷ ls) = ap (λ m. cut (drop m (c ∷ l.text)) l ls) (let e : n + 1 ≡ suc n = omega arith in e)

no-cells : (cs : List Cell) → ends_name cs ≡ is_empty (anchor_cells cs)
no-cells [] = refl
no-cells (c ∷ cs) = by-end (is_blank c || is_flow_indicator c.0) ∙ ap is_empty (sym (take-front is_name c cs))
  where
    by-end : (b : Bool) → b ≡ is_empty (cond (not b) (c ∷ anchor_cells cs) [])
    by-end true = refl
    by-end false = refl

pub property-solid : (bytes : List ℕ) (at : ℕ) → at ≤ length bytes → is_property (text_at bytes at) ≡ true → IsLineEnd bytes at → ⊥
property-solid bytes at inside h e = never (ap is_property (sym (text-line_end bytes at inside e)) ∙ h)

module _ (bytes : List ℕ) (at : ℕ) (inside : at ≤ length bytes) (property : is_property (text_at bytes at) ≡ true) where
  pub no_name-is : ends_name (text_at bytes (at + 1)) ≡ has_no_name (lines_at bytes at)
  no_name-is = no-cells (text_at bytes (at + 1)) ∙ ap (λ cs. is_empty (anchor_cells (drop 1 cs))) (sym (text_at-cell bytes at inside (property-solid bytes at inside property)))

pub solid-text : (bytes : List ℕ) (at : ℕ) → at ≤ length bytes → false ≡ is_empty (text_at bytes at) → IsLineEnd bytes at → ⊥
solid-text bytes at inside h e = never (h ∙ ap is_empty (text-line_end bytes at inside e))
