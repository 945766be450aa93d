-- The cells of a line in terms of offsets.
use Rattle.std.proofs.Common.{◌≡◌, ◌≢◌, ℕ, suc, ◌+◌, ◌<◌, ◌≤◌, List, [], ◌∷◌, ◌++◌, length, drop, slice_index, refl, sym, ap, subst, ◌∙◌}
use Rattle.std.proofs.Common.{arith, append_assoc, drop-cons, Bool, true, false, ◌==◌, inl, inr, ◌⊎◌}
use Rattle.std.proofs.Math.Nat.{eq-or-lt_of_le}
use Rattle.std.proofs.Math.Seq.{drop-length}
use native.Mathlib.Decide.{ℕ_discrete}
use Rattle.std.proofs.lemmas.Grind.{common_steps}
use Rattle.al_scalar.specs.Line.{Cell, Line, lines, with_cell, with_return, is_break, is_blank}
use Rattle.al_scalar.specs.Places.{first_text, lines_at}
use Rattle.al_scalar.specs.LineEnds.{broken_line, with_cells_before, IsBlankByte, IsBreakByte, IsLineEnd, SameLine}
use Rattle.al_scalar.proofs.LineLemmas.{lines_at-other}
use Rattle.al_scalar.proofs.OffsetLemmas.{choose}

pub is_blank-yes : (c : Cell) → IsBlankByte c.0 → is_blank c ≡ true
is_blank-yes c h = grind (arith, common_steps, h)

pub is_blank-no : (c : Cell) → (IsBlankByte c.0 → ⊥) → is_blank c ≡ false
is_blank-no c h =
    let n : c.0 ≢ 32 = λ e. h (inl e) in
    let m : c.0 ≢ 9 = λ e. h (inr e) in
    grind (arith, common_steps, n, m)

abbrev pub has_line : List Line → Bool
has_line [] = false
has_line (l ∷ ls) = true

has_line-with_cell : (c : Cell) (ls : List Line) → has_line (with_cell c ls) ≡ has_line ls
has_line-with_cell c [] = refl
has_line-with_cell c (l ∷ ls) = refl

has_line-with_return : (at : ℕ) (ls : List Line) → has_line (with_return at ls) ≡ has_line ls
has_line-with_return at [] = refl
has_line-with_return at (l ∷ ls) = refl

pub lines-some : (at : ℕ) (bs : List ℕ) → has_line (lines at bs) ≡ true
lines-some at [] = refl
lines-some at (b ∷ bs) =
    let some = lines-some (at + 1) bs in
    let more = lines (at + 1) bs in
    choose (λ (ls : List Line). has_line ls ≡ true) (is_break b bs) (λ _. refl)
    (λ _. choose (λ (ls : List Line). has_line ls ≡ true) (b == 13) (λ _. has_line-with_return at more ∙ some) (λ _. has_line-with_cell (b, at) more ∙ some))

pub lines_at-some : (bytes : List ℕ) (i : ℕ) → has_line (lines_at bytes i) ≡ true
lines_at-some bytes i = lines-some i (drop i bytes)

-- the lines are the same except that `run` is prepended to the first one
pub record RunBefore (run : List Cell) (xs ys : List Line) : Type 0 where
  pub text : first_text xs ≡ run ++ first_text ys
  pub same : SameLine xs ys

run_before : (run : List Cell) (ls : List Line) → has_line ls ≡ true → RunBefore run (with_cells_before run ls) ls
run_before run [] h = cc
run_before run (l ∷ ls) h = record { text = refl; same = record { end = refl; last = refl; later = refl } }

cell_before : (c : Cell) (ls : List Line) → has_line ls ≡ true → RunBefore (c ∷ []) (with_cell c ls) ls
cell_before c [] h = cc
cell_before c (l ∷ ls) h = record { text = refl; same = record { end = refl; last = refl; later = refl } }

pub run_at : (bytes : List ℕ) (i j : ℕ) (run : List Cell) → lines_at bytes i ≡ with_cells_before run (lines_at bytes j) → RunBefore run (lines_at bytes i) (lines_at bytes j)
run_at bytes i j run e = subst (λ xs. RunBefore run xs (lines_at bytes j)) (sym e) (run_before run (lines_at bytes j) (lines_at-some bytes j))

pub cell_at : (bytes : List ℕ) (i : ℕ) → i < length bytes → slice_index bytes i ≢ 10 → slice_index bytes i ≢ 13
    → RunBefore ((slice_index bytes i, i) ∷ []) (lines_at bytes i) (lines_at bytes (i + 1))
cell_at bytes i h n m = subst (λ xs. RunBefore ((slice_index bytes i, i) ∷ []) xs (lines_at bytes (i + 1)))
    (sym (lines_at-other bytes i h n m)) (cell_before _ (lines_at bytes (i + 1)) (lines_at-some bytes (i + 1)))

pub run_then : {xs ys zs : List Line} (p q : List Cell) → RunBefore p xs ys → RunBefore q ys zs → RunBefore (p ++ q) xs zs
run_then p q r s = record {
  text = r.text ∙ ap (λ t. p ++ t) s.text ∙ sym (append_assoc p q _);
  same = record { end = r.same.end ∙ s.same.end; last = r.same.last ∙ s.same.last; later = r.same.later ∙ s.same.later };
}

-- At a break the line has no text left and isn't the last one.
broken : (at b : ℕ) (bs : List ℕ) → IsBreakByte b → (more : List Line) × (lines at (b ∷ bs) ≡ broken_line at ∷ more)
broken at b bs (inl e) = (lines (at + 1) bs, rw e refl)
broken at b [] (inr e) = (lines (at + 1) [], rw e refl)
broken at b (c ∷ cs) (inr e) = by_next (c == 10) refl
  where
    by_next : (x : Bool) → (c == 10) ≡ x → (more : List Line) × (lines at (b ∷ c ∷ cs) ≡ broken_line at ∷ more)
    by_next true f = (lines (at + 1 + 1) cs, rw (e, f) refl)
    by_next false f = (lines (at + 1) (c ∷ cs), rw (e, f) refl)

pub broken-at : (bytes : List ℕ) (i : ℕ) → i < length bytes → IsLineEnd bytes i → (more : List Line) × (lines_at bytes i ≡ broken_line i ∷ more)
broken-at bytes i l k = rw (drop-cons bytes i 0) (broken i (slice_index bytes i) (drop (suc i) bytes) (k l))

pub lines-at_end : (bytes : List ℕ) (i : ℕ) → i ≡ length bytes → lines_at bytes i ≡ record { text = []; end = i; last = true } ∷ []
lines-at_end bytes i e = rw (e, drop-length) refl

pub text-line_end : (bytes : List ℕ) (i : ℕ) → i ≤ length bytes → IsLineEnd bytes i → first_text (lines_at bytes i) ≡ []
text-line_end bytes i h k = elim (eq-or-lt_of_le h) [ inl e ↦ ap first_text (lines-at_end bytes i e) | inr l ↦ ap first_text (broken-at bytes i l k).1 ]

pub byte_kind : (b : ℕ) → ((b ≡ 10) ⊎ (b ≡ 13)) ⊎ ((b ≢ 10) × (b ≢ 13))
byte_kind b = elim (ℕ_discrete b 10) [ yes e ↦ inl (inl e) | no n ↦ elim (ℕ_discrete b 13) [ yes e ↦ inl (inr e) | no m ↦ inr (n, m) ] ]

pub same_then : {xs ys zs : List Line} → SameLine xs ys → SameLine ys zs → SameLine xs zs
same_then r s = record { end = r.end ∙ s.end; last = r.last ∙ s.last; later = r.later ∙ s.later }

-- the offset j isn't at the end of a line
pub record IsInside (bytes : List ℕ) (j : ℕ) : Type 0 where
  pub inside : j < length bytes
  pub not_feed : slice_index bytes j ≢ 10
  pub not_return : slice_index bytes j ≢ 13

pub is_inside : (bytes : List ℕ) (j : ℕ) → j ≤ length bytes → (IsLineEnd bytes j → ⊥) → IsInside bytes j
is_inside bytes j h k = elim (eq-or-lt_of_le h) [
  | inl e ↦ absurd (k (λ l. absurd (omega arith)))
  | inr l ↦ record { inside = l; not_feed = λ e. k (λ _. inl e); not_return = λ e. k (λ _. inr e) }
]

pub never : false ≡ true → ⊥
never e = cc
