-- Rows, indents and spaces of block scalars in terms of offsets.
use Rattle.std.proofs.Common.{◌≡◌, ◌≢◌, ℕ, zero, suc, ◌+◌, ◌-◌, ◌<◌, ◌≤◌, List, [], ◌∷◌, ◌++◌, length, drop, slice_index, refl, sym, ap}
use Rattle.std.proofs.Common.{subst, ◌∙◌, arith, true, false, cond, inl, inr, Option, Some, None, eq-eqb, is_some}
use Rattle.std.proofs.lemmas.Grind.{common_steps}
use Rattle.al_scalar.specs.Block.{row_of, found_indent}
use Rattle.al_scalar.specs.Line.{Cell, Line, indent, is_all_blank}
use Rattle.al_scalar.specs.Places.{first_text, lines_at}
use Rattle.al_scalar.specs.LineEnds.{cells_at, cells_between, with_cells_before, broken_line, SameLine, later, AreSpaces, BlankTo}
use Rattle.al_scalar.specs.Private.BlockRead.{indent_from}
use Rattle.al_scalar.proofs.LineLemmas.{cells_between-none, cells_between-more}
use Rattle.al_scalar.proofs.LineCells.{has_line, RunBefore, run_at, run_then, cell_at, lines-at_end, IsInside}
use Rattle.al_scalar.proofs.RestLemmas.{text_kind}

pub AreSpaces-more : (cs : List Cell) (c : Cell) → AreSpaces cs → c.0 ≡ 32 → AreSpaces (cs ++ c ∷ [])
AreSpaces-more [] c s p = (p, tt)
AreSpaces-more (x ∷ xs) c s p = (s.0, AreSpaces-more xs c s.1 p)

pub same-refl : {xs : List Line} → SameLine xs xs
same-refl = record { end = refl; last = refl; later = refl }

pub run-none : (bytes : List ℕ) (i : ℕ) → RunBefore (cells_between bytes i i) (lines_at bytes i) (lines_at bytes i)
run-none bytes i = record { text = ap (λ cs. cs ++ first_text (lines_at bytes i)) (sym (cells_between-none bytes i)); same = same-refl }

pub run-more : (bytes : List ℕ) (at i : ℕ) → at ≤ i → IsInside bytes i → RunBefore (cells_between bytes at i) (lines_at bytes at) (lines_at bytes i)
    → RunBefore (cells_between bytes at (i + 1)) (lines_at bytes at) (lines_at bytes (i + 1))
run-more bytes at i order here run =
    subst (λ cs. RunBefore cs (lines_at bytes at) (lines_at bytes (i + 1))) (sym (cells_between-more bytes at i order))
    (run_then (cells_between bytes at i) ((slice_index bytes i, i) ∷ []) run (cell_at bytes i here.inside here.not_feed here.not_return))

-- the first byte of the text from an offset
pub begins-cell : (bytes : List ℕ) (i : ℕ) → IsInside bytes i → first_text (lines_at bytes i) ≡ (slice_index bytes i, i) ∷ first_text (lines_at bytes (i + 1))
begins-cell bytes i here = (cell_at bytes i here.inside here.not_feed here.not_return).text

-- ---- spaces

pub indent-run : (run rest : List Cell) → AreSpaces run → indent (run ++ rest) ≡ length run + indent rest
indent-run [] rest h = let e : indent rest ≡ 0 + indent rest = omega arith in e
indent-run (c ∷ cs) rest h =
    let e : 1 + (length cs + indent rest) ≡ suc (length cs) + indent rest = omega arith in
    ap (λ b. cond b (1 + indent (cs ++ rest)) 0) (eq-eqb c.0 32 h.0) ∙ ap (λ n. 1 + n) (indent-run cs rest h.1) ∙ e

pub drop-run : (run rest : List Cell) → drop (length run) (run ++ rest) ≡ rest
drop-run [] rest = refl
drop-run (c ∷ cs) rest = drop-run cs rest

length-cells_at : (bytes : List ℕ) (i n : ℕ) → length (cells_at bytes i n) ≡ n
length-cells_at bytes i zero = refl
length-cells_at bytes i (suc n) = ap suc (length-cells_at bytes (suc i) n)

pub length-cells_between : (bytes : List ℕ) (i j : ℕ) → length (cells_between bytes i j) ≡ j - i
length-cells_between bytes i j = length-cells_at bytes i (j - i)

indent-cell : (c : Cell) (cs : List Cell) → c.0 ≢ 32 → indent (c ∷ cs) ≡ 0
indent-cell c cs n = grind (arith, common_steps, n)

-- the byte at i is no space
pub indent-solid : (bytes : List ℕ) (i : ℕ) → i ≤ length bytes → (i < length bytes → slice_index bytes i ≢ 32) → indent (first_text (lines_at bytes i)) ≡ 0
indent-solid bytes i h n = elim (text_kind bytes i h) [
  | inl e ↦ ap indent e
  | inr k ↦ ap indent k.1 ∙ indent-cell (slice_index bytes i, i) (first_text (lines_at bytes (i + 1))) (n k.0)
]

-- the indent of a line with spaces up to an offset
pub indent-at : (bytes : List ℕ) (at i : ℕ) → AreSpaces (cells_between bytes at i) → RunBefore (cells_between bytes at i) (lines_at bytes at) (lines_at bytes i)
    → indent (first_text (lines_at bytes at)) ≡ (i - at) + indent (first_text (lines_at bytes i))
indent-at bytes at i s r =
    ap indent r.text ∙ indent-run (cells_between bytes at i) (first_text (lines_at bytes i)) s
    ∙ ap (λ n. n + indent (first_text (lines_at bytes i))) (length-cells_between bytes at i)

pub drop-at : (bytes : List ℕ) (at i m : ℕ) → i - at ≡ m → RunBefore (cells_between bytes at i) (lines_at bytes at) (lines_at bytes i)
    → drop m (first_text (lines_at bytes at)) ≡ first_text (lines_at bytes i)
drop-at bytes at i m e r =
    ap (λ n. drop n (first_text (lines_at bytes at))) (sym e ∙ sym (length-cells_between bytes at i))
    ∙ ap (drop (length (cells_between bytes at i))) r.text ∙ drop-run (cells_between bytes at i) (first_text (lines_at bytes i))

-- ---- `row_of` by cases

pub row-indented : (m : ℕ) (text kept : List Cell) → m ≤ indent text → drop m text ≡ kept → row_of (Some m) true text ≡ Some kept
row-indented m text kept h e = grind (arith, common_steps, h, e)

pub row-blank : (m : ℕ) (text : List Cell) → (m ≤ indent text → ⊥) → is_all_blank text ≡ true → row_of (Some m) true text ≡ Some []
row-blank m text h e = grind (arith, common_steps, h, e)

pub row-none : (m : ℕ) (text : List Cell) → (m ≤ indent text → ⊥) → is_all_blank text ≡ false → row_of (Some m) true text ≡ None
row-none m text h e = grind (arith, common_steps, h, e)

-- ---- the content indent

pub found-solid : (within : ℕ) (xs : List Line) → has_line xs ≡ true → is_all_blank (first_text xs) ≡ false → found_indent within xs ≡ indent_from within (first_text xs)
found-solid within [] h e = cc
found-solid within (l ∷ ls) h e = ap (λ b. cond b (found_indent within ls) (indent_from within l.text)) e

pub found-blank : (within : ℕ) (xs : List Line) → is_all_blank (first_text xs) ≡ true → found_indent within xs ≡ found_indent within (later xs)
found-blank within [] e = refl
found-blank within (l ∷ ls) e = ap (λ b. cond b (found_indent within ls) (indent_from within l.text)) e

pub found-last : (bytes : List ℕ) (within at end : ℕ) → is_all_blank (first_text (lines_at bytes at)) ≡ true → SameLine (lines_at bytes at) (lines_at bytes end) → end ≡ length bytes
    → found_indent within (lines_at bytes at) ≡ None
found-last bytes within at end b s e = found-blank within (lines_at bytes at) b ∙ ap (found_indent within) (s.later ∙ ap later (lines-at_end bytes end e))

pub found-next : (bytes : List ℕ) (within at end next : ℕ) → is_all_blank (first_text (lines_at bytes at)) ≡ true → SameLine (lines_at bytes at) (lines_at bytes end)
    → lines_at bytes end ≡ broken_line end ∷ lines_at bytes next → found_indent within (lines_at bytes at) ≡ found_indent within (lines_at bytes next)
found-next bytes within at end next b s e = found-blank within (lines_at bytes at) b ∙ ap (found_indent within) (s.later ∙ ap later e)

-- ---- a row whose spaces end at an offset

module _ (bytes : List ℕ) (at from m : ℕ) (order : at ≤ from) (inside : from ≤ length bytes) (s : AreSpaces (cells_between bytes at from))
    (e : lines_at bytes at ≡ with_cells_before (cells_between bytes at from) (lines_at bytes from)) where
  pub indented-same : SameLine (lines_at bytes at) (lines_at bytes from)
  indented-same = (run_at bytes at from (cells_between bytes at from) e).same

  pub indented-yes : from - at ≡ m → row_of (Some m) true (first_text (lines_at bytes at)) ≡ Some (first_text (lines_at bytes from))
  indented-yes f =
      let r = run_at bytes at from (cells_between bytes at from) e in
      let i = indent-at bytes at from s r in
      row-indented m (first_text (lines_at bytes at)) (first_text (lines_at bytes from)) (omega (arith, i, f)) (drop-at bytes at from m f r)

  pub indent-is : (from < length bytes → slice_index bytes from ≢ 32) → indent (first_text (lines_at bytes at)) ≡ from - at
  indent-is n =
      let r = run_at bytes at from (cells_between bytes at from) e in
      let i = indent-at bytes at from s r in
      let z = indent-solid bytes from inside n in
      omega (arith, i, z)

  pub indented-no : from ≤ at + m → from - at ≢ m → (from < length bytes → from < at + m → slice_index bytes from ≢ 32) → m ≤ indent (first_text (lines_at bytes at)) → ⊥
  indented-no h f n k =
      let less : from < at + m = omega (arith, order, h, f) in
      let i = indent-is (λ l. n l less) in
      omega (arith, i, k, less, order)

pub indent_from-yes : (within : ℕ) (text : List Cell) (n : ℕ) → indent text ≡ n → within ≤ n → Some n ≡ indent_from within text
indent_from-yes within text n e h = grind (arith, common_steps, e, h)

pub indent_from-no : (within : ℕ) (text : List Cell) (n : ℕ) → indent text ≡ n → n < within → None ≡ indent_from within text
indent_from-no within text n e h = grind (arith, common_steps, e, h)

pub blank-is : (bytes : List ℕ) (at : ℕ) (b : Option ℕ) → BlankTo bytes at b → is_all_blank (first_text (lines_at bytes at)) ≡ is_some b
blank-is bytes at None h = h
blank-is bytes at (Some end) h = h.0
