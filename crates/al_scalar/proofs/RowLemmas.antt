-- The rows of a block scalar.
use Rattle.std.proofs.Common.{◌≡◌, ℕ, zero, suc, ◌+◌, ◌-◌, ◌<◌, List, [], ◌∷◌, ◌++◌, length, slice_index, refl, sym, ap, ◌∙◌, arith}
use Rattle.std.proofs.Common.{append_assoc, append-nil, Bool, true, false, not, ◌||◌, cond, Option, Some, None}
use Rattle.al_scalar.specs.Line.{Cell, Line, is_empty, is_all_blank, begins_blank, is_blank}
use Rattle.al_scalar.specs.Taken.{Taken, feeds, with_text}
use Rattle.al_scalar.specs.Block.{last_end, BlockLine, Rows, with_row, row_of, rows_at, rows_end, between_rows, joint, final_breaks, text_after}
use Rattle.al_scalar.specs.declared.header.Chomping.{Chomping}
use Rattle.al_scalar.specs.declared.header.Chomping.TheVariants.{Strip, Clip, Keep}
use Rattle.al_scalar.specs.Places.{first_text, first_end, lines_at}
use Rattle.al_scalar.specs.LineEnds.{cells_at, cells_between, broken_line, SameLine, first_last, later}
use Rattle.al_scalar.specs.Private.BlockRead.{row_like, last_row, rest_of, AddsRow, EndsRow, last_line}
use Rattle.al_scalar.specs.declared.block.BlockStyle.{BlockStyle}
use Rattle.al_scalar.specs.declared.block.RowState.{RowState}
use Rattle.al_scalar.proofs.LineLemmas.{cells_between-front}
use Rattle.al_scalar.proofs.LineCells.{has_line, lines-at_end, lines_at-some}

-- A joint depends only on a row's break and on whether it begins with a blank.
pub joint-like : (lit : Bool) (last : Option BlockLine) (es : List ℕ) (r s : BlockLine) → begins_blank r.text ≡ begins_blank s.text → joint lit last es r ≡ joint lit last es s
joint-like lit None es r s e = refl
joint-like lit (Some l) es r s e = ap (λ b. cond (lit || begins_blank l.text || b) (feeds (l.break ++ es)) (between_rows l.break es)) e

joint-last : (lit : Bool) (r s : BlockLine) (es : List ℕ) (x : BlockLine) → begins_blank r.text ≡ begins_blank s.text → r.break ≡ s.break → joint lit (Some r) es x ≡ joint lit (Some s) es x
joint-last lit r s es x e f =
    rw (e, f) refl

pub text_after-like : (lit : Bool) (k : Chomping) (r s : BlockLine) (es : List ℕ) (rs : List BlockLine) → begins_blank r.text ≡ begins_blank s.text → r.break ≡ s.break
    → text_after lit k (Some r) es rs ≡ text_after lit k (Some s) es rs
text_after-like lit k r s es [] e f = ap (λ b. final_breaks k b es) f
text_after-like lit k r s es (x ∷ xs) e f =
    rw (text_after-like lit k r s (es ++ x.break) xs e f, joint-last lit r s es x e f) refl

spaced-like : (b : Bool) (break : List ℕ) → begins_blank (row_like b break).text ≡ b
spaced-like true break = refl
spaced-like false break = refl

-- ---- one more row

-- a row with text
pub row-text : (new mid : List Cell) (lit : Bool) (k : Chomping) (last : Option BlockLine) (es : List ℕ) (text : List Cell) (break : List ℕ) (rs : List BlockLine) (old : List Cell) (b : Bool)
    → is_empty text ≡ false → begins_blank text ≡ b → mid ≡ old ++ joint lit last es (row_like b []) → new ≡ mid ++ text
    → old ++ text_after lit k last es (record { text = text; break = break } ∷ rs) ≡ new ++ text_after lit k (Some (row_like b break)) [] rs
row-text new mid lit k last es text break rs old b e s f g =
    let r : BlockLine = record { text = text; break = break } in
    let below = text_after lit k (Some r) [] rs in
    let like : begins_blank r.text ≡ begins_blank (row_like b break).text = s ∙ sym (spaced-like b break) in
    let like_none : begins_blank r.text ≡ begins_blank (row_like b []).text = s ∙ sym (spaced-like b []) in
    let j' = joint lit last es (row_like b []) in
    rw (e, joint-like lit last es r (row_like b []) like_none, g, f)
    (sym (append_assoc old (j' ++ text) below)
    ∙ ap (λ x. x ++ below) (sym (append_assoc old j' text))
    ∙ ap (λ t. ((old ++ j') ++ text) ++ t) (text_after-like lit k r (row_like b break) [] rs like refl))

pub final_breaks-none : (k : Chomping) → final_breaks k [] [] ≡ []
final_breaks-none Strip = refl
final_breaks-none Clip = refl
final_breaks-none Keep = refl

-- the last line of the file, with text
pub row-final : (new mid : List Cell) (lit : Bool) (k : Chomping) (last : Option BlockLine) (es : List ℕ) (text old : List Cell) (b : Bool)
    → is_empty text ≡ false → begins_blank text ≡ b → mid ≡ old ++ joint lit last es (row_like b []) → new ≡ mid ++ text
    → new ≡ old ++ text_after lit k last es (record { text = text; break = [] } ∷ [])
row-final new mid lit k last es text old b e s f g =
    sym (row-text new mid lit k last es text [] [] old b e s f g ∙ ap (λ t. new ++ t) (final_breaks-none k) ∙ append-nil new)

-- ---- cells between offsets

last_end-cells : (bytes : List ℕ) (i n at : ℕ) → last_end (cells_at bytes i (suc n)) at ≡ i + suc n
last_end-cells bytes i zero at = refl
last_end-cells bytes i (suc n) at = let e : suc i + suc n ≡ i + suc (suc n) = omega arith in last_end-cells bytes (suc i) n (i + 1) ∙ e

pub last_end-between : (bytes : List ℕ) (from stop at : ℕ) → from < stop → last_end (cells_between bytes from stop) at ≡ stop
last_end-between bytes from stop at h =
    let e : stop - from ≡ suc ((stop - from) - 1) = omega arith in
    let f : from + suc ((stop - from) - 1) ≡ stop = omega arith in
    ap (λ n. last_end (cells_at bytes from n) at) e ∙ last_end-cells bytes from ((stop - from) - 1) at ∙ f

pub some-between : (bytes : List ℕ) (from stop : ℕ) → from < stop → is_empty (cells_between bytes from stop) ≡ false
some-between bytes from stop h = ap is_empty (cells_between-front bytes from stop h)

pub spaced-between : (bytes : List ℕ) (from stop : ℕ) (b : Bool) → from < stop → is_blank (slice_index bytes from, from) ≡ b → begins_blank (cells_between bytes from stop) ≡ b
spaced-between bytes from stop b h e = ap begins_blank (cells_between-front bytes from stop h) ∙ e

-- ---- rows of lines

abbrev pub of_rows : Bool → Chomping → Option BlockLine → List ℕ → ℕ → Rows → Taken
of_rows lit k last es end rs = record { text = text_after lit k last es rs.rows; end = rows_end end rs.rows; left = rs.left }

-- the scalar after some rows, given the rows that are left
abbrev with_rows : BlockStyle → RowState → Rows → Taken
with_rows style was rs = with_text was.text (of_rows style.literal style.chomping (last_row was.pending.last) was.pending.empties.items was.end rs)

rest-more : (style : BlockStyle) (found : Bool) (was : RowState) (xs : List Line) (t : List Cell) → has_line xs ≡ true
    → row_of style.indent found (first_text xs) ≡ Some t → first_last xs ≡ false → rest_of style found was xs
    ≡ with_rows style was (with_row (record { text = t; break = first_end xs ∷ [] }) (rows_at style.indent (found || not (is_all_blank (first_text xs))) (later xs)))
rest-more style found was [] t h e f = cc
rest-more style found was (l ∷ ls) t h e f = rw (e, f, rows_at) refl

rest-last : (style : BlockStyle) (found : Bool) (was : RowState) (xs : List Line) (t : List Cell) → has_line xs ≡ true
    → row_of style.indent found (first_text xs) ≡ Some t → first_last xs ≡ true → rest_of style found was xs
    ≡ with_rows style was (record { rows = record { text = t; break = [] } ∷ []; left = record { text = []; end = first_end xs; last = true } ∷ [] })
rest-last style found was [] t h e f = cc
rest-last style found was (l ∷ ls) t h e f = rw (e, f, rows_at) refl

-- ---- the steps of the loop over lines

pub rows-last : {x : Taken} (style : BlockStyle) (found : Bool) (was is : RowState) (bytes : List ℕ) (i from stop : ℕ)
    → x ≡ rest_of style found was (lines_at bytes i) → row_of style.indent found (first_text (lines_at bytes i)) ≡ Some (first_text (lines_at bytes from))
    → SameLine (lines_at bytes i) (lines_at bytes from) → SameLine (lines_at bytes from) (lines_at bytes stop) → first_text (lines_at bytes from) ≡ cells_between bytes from stop
    → stop ≡ length bytes → is.text ≡ was.text ++ text_after style.literal style.chomping (last_row was.pending.last) was.pending.empties.items (last_line bytes from)
    → is.end ≡ rows_end was.end (last_line bytes from) → x ≡ record { text = is.text; end = is.end; left = lines_at bytes stop }
rows-last style found was is bytes i from stop e r s u w z g h =
    let ls = lines_at bytes i in
    let cells = cells_between bytes from (length bytes) in
    let at_stop = lines-at_end bytes stop z in
    let ended : first_end ls ≡ stop = s.end ∙ u.end ∙ ap first_end at_stop in
    let is_last : first_last ls ≡ true = s.last ∙ u.last ∙ ap first_last at_stop in
    let row : row_of style.indent found (first_text ls) ≡ Some cells = r ∙ ap Some (w ∙ ap (cells_between bytes from) z) in
    e ∙ rest-last style found was ls cells (lines_at-some bytes i) row is_last ∙ rw (g, h, ended, at_stop) refl

pub rows-more : {x : Taken} (style : BlockStyle) (found b : Bool) (was is : RowState) (bytes : List ℕ) (i from stop next : ℕ)
    → x ≡ rest_of style found was (lines_at bytes i) → row_of style.indent found (first_text (lines_at bytes i)) ≡ Some (first_text (lines_at bytes from))
    → SameLine (lines_at bytes i) (lines_at bytes from) → SameLine (lines_at bytes from) (lines_at bytes stop) → first_text (lines_at bytes from) ≡ cells_between bytes from stop
    → lines_at bytes stop ≡ broken_line stop ∷ lines_at bytes next → is_all_blank (first_text (lines_at bytes i)) ≡ b
    → AddsRow style.literal was (cells_between bytes from stop) (stop ∷ []) is → EndsRow was (cells_between bytes from stop) is
    → x ≡ rest_of style (found || not b) is (lines_at bytes next)
rows-more style found b was is bytes i from stop next e r s u w z q g h =
    let ls = lines_at bytes i in
    let cells = cells_between bytes from stop in
    let ended : first_end ls ≡ stop = s.end ∙ u.end ∙ ap first_end z in
    let is_last : first_last ls ≡ false = s.last ∙ u.last ∙ ap first_last z in
    let after : later ls ≡ lines_at bytes next = s.later ∙ u.later ∙ ap later z in
    let row : row_of style.indent found (first_text ls) ≡ Some cells = r ∙ ap Some w in
    let rs = rows_at style.indent (found || not b) (lines_at bytes next) in
    e ∙ rest-more style found was ls cells (lines_at-some bytes i) row is_last ∙ rw (q, after, ended, g style.chomping rs.rows, ← h) refl
