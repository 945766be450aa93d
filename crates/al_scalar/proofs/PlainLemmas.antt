-- The parts of a plain scalar's lines in terms of offsets.
use Rattle.std.proofs.Common.{◌≡◌, ◌≢◌, ℕ, zero, suc, ◌+◌, ◌-◌, ◌<◌, ◌≤◌, List, [], ◌∷◌, ◌++◌, length, slice_index, refl, sym, ap, ◌∙◌}
use Rattle.std.proofs.Common.{arith, append_assoc, append-nil, Bool, true, false, ◌&&◌, ◌||◌, nat_lt, cond, inl, inr, ◌⊎◌, ◌↔◌}
use Rattle.std.proofs.Common.{IsTrue, eq-or-lt_of_le, subst}
use Rattle.std.proofs.lemmas.Grind.{common_steps}
use Rattle.std.proofs.Math.Bool.{and-false}
use Rattle.al_scalar.specs.Line.{Cell, is_blank, is_blank_or_end, is_empty}
use Rattle.al_scalar.specs.Plain.{Context, is_flow, is_flow_indicator, begins_flow_indicator, ends_key, ends_plain, plain_part}
use Rattle.al_scalar.specs.Places.{lines_at, text_at}
use Rattle.al_scalar.specs.LineEnds.{cells_at, cells_between, AreBlank, IsBlankByte, IsLineEnd, SameLine}
use Rattle.al_scalar.specs.Private.PlainLines.{IsWordAt, IsWordByte, PartTo}
use Rattle.al_scalar.proofs.BlockLemmas.{run-none}
use Rattle.al_scalar.proofs.LineLemmas.{cells_between-none, cells_between-front, cells_between-more}
use Rattle.al_scalar.proofs.LineCells.{RunBefore, cell_at, text-line_end, is_blank-yes, is_blank-no, is_inside, never}

-- ---- the cell at an offset

pub text_at-cell : (bytes : List ℕ) (i : ℕ) → i ≤ length bytes → (IsLineEnd bytes i → ⊥) → text_at bytes i ≡ (slice_index bytes i, i) ∷ text_at bytes (i + 1)
text_at-cell bytes i h k =
    let here = is_inside bytes i h k in
    (cell_at bytes i here.inside here.not_feed here.not_return).text

pub text_at-some : (bytes : List ℕ) (i : ℕ) → i ≤ length bytes → (IsLineEnd bytes i → ⊥) → is_empty (text_at bytes i) ≡ false
text_at-some bytes i h k = ap is_empty (text_at-cell bytes i h k)

pub blank-value : (r : Bool) (c : Cell) → (IsTrue r ↔ IsBlankByte c.0) → r ≡ is_blank c
blank-value true c h = sym (is_blank-yes c (h.0 refl))
blank-value false c h = sym (is_blank-no c (λ b. never (h.1 b)))

pub blank_or_end-cell : (bytes : List ℕ) (i : ℕ) (r : Bool) → i ≤ length bytes → (IsLineEnd bytes i → ⊥) → (IsTrue r ↔ IsBlankByte (slice_index bytes i)) → r ≡ is_blank_or_end (text_at bytes i)
blank_or_end-cell bytes i r h k b = blank-value r (slice_index bytes i, i) b ∙ sym (ap is_blank_or_end (text_at-cell bytes i h k))

pub blank_or_end-end : (bytes : List ℕ) (i : ℕ) → i ≤ length bytes → IsLineEnd bytes i → true ≡ is_blank_or_end (text_at bytes i)
blank_or_end-end bytes i h k = sym (ap is_blank_or_end (text-line_end bytes i h k))

-- ---- `ends_plain` by the first byte

pub ends-colon : (p : Context) (f : Bool) (c : Cell) (cs : List Cell) → c.0 ≡ 58 → ends_plain p f (c ∷ cs) ≡ ends_key p cs
ends-colon p f c cs e = rw e (grind (arith, common_steps))

pub ends-hash : (p : Context) (f : Bool) (c : Cell) (cs : List Cell) → c.0 ≡ 35 → ends_plain p f (c ∷ cs) ≡ f
ends-hash p f c cs e = rw e (grind (arith, common_steps))

pub ends-other : (p : Context) (f : Bool) (c : Cell) (cs : List Cell) → c.0 ≢ 58 → c.0 ≢ 35 → ends_plain p f (c ∷ cs) ≡ (is_flow p && is_flow_indicator c.0)
ends-other p f c cs n m = grind (arith, common_steps, n, m)

ends-blank : (p : Context) (f : Bool) (c : Cell) (cs : List Cell) → IsBlankByte c.0 → ends_plain p f (c ∷ cs) ≡ false
ends-blank p f c cs (inl e) = rw e (and-false (is_flow p))
ends-blank p f c cs (inr e) = rw e (and-false (is_flow p))

-- ---- the part of a line

abbrev pub flag_after : Bool → List Cell → Bool
flag_after f [] = f
flag_after f (c ∷ cs) = true

abbrev pub in_front : List Cell → List Cell × List Cell → List Cell × List Cell
in_front run p = (run ++ p.0, p.1)

abbrev pub part_step : Bool → Bool → Cell → List Cell → List Cell × List Cell → List Cell × List Cell
part_step ends blank c cs more = cond ends ([], c ∷ cs) (cond (blank && is_empty more.0) ([], c ∷ cs) (c ∷ more.0, more.1))

pub part-step : (p : Context) (f ends blank : Bool) (c : Cell) (cs : List Cell) (more : List Cell × List Cell) → ends_plain p f (c ∷ cs) ≡ ends → is_blank c ≡ blank
    → plain_part p blank cs ≡ more → plain_part p f (c ∷ cs) ≡ part_step ends blank c cs more
part-step p f ends blank c cs more h k m =
    ap (λ x. part_step x (is_blank c) c cs (plain_part p (is_blank c) cs)) h ∙ ap (λ x. part_step ends x c cs (plain_part p x cs)) k ∙ ap (part_step ends blank c cs) m

flag-true : (run : List Cell) → flag_after true run ≡ true
flag-true [] = refl
flag-true (c ∷ cs) = refl

-- the scalar ends after a run of blanks, which isn't part of it
part-ends : (p : Context) (f : Bool) (run rest : List Cell) → AreBlank run → ends_plain p (flag_after f run) rest ≡ true → plain_part p f (run ++ rest) ≡ ([], run ++ rest)
part-ends p f [] [] h e = refl
part-ends p f [] (c ∷ cs) h e = part-step p f true (is_blank c) c cs (plain_part p (is_blank c) cs) e refl refl
part-ends p f (c ∷ run) rest h e =
    part-step p f false true c (run ++ rest) ([], run ++ rest) (ends-blank p f c (run ++ rest) h.0) (is_blank-yes c h.0)
    (part-ends p true run rest h.1 (ap (λ b. ends_plain p b rest) (flag-true run) ∙ e))

some-empty : (run : List Cell) (c : Cell) (cs : List Cell) → is_empty (run ++ c ∷ cs) ≡ false
some-empty [] c cs = refl
some-empty (x ∷ xs) c cs = refl

-- the scalar continues with a cell after a run of blanks
part-goes : (p : Context) (f : Bool) (run : List Cell) (c : Cell) (cs : List Cell) → AreBlank run → (IsBlankByte c.0 → ⊥) → ends_plain p (flag_after f run) (c ∷ cs) ≡ false
    → plain_part p f (run ++ c ∷ cs) ≡ in_front (run ++ c ∷ []) (plain_part p false cs)
part-goes p f [] c cs h n e = part-step p f false false c cs (plain_part p false cs) e (is_blank-no c n) refl
part-goes p f (b ∷ run) c cs h n e =
    let more = plain_part p false cs in
    part-step p f false true b (run ++ c ∷ cs) (in_front (run ++ c ∷ []) more) (ends-blank p f b (run ++ c ∷ cs) h.0) (is_blank-yes b h.0)
    (part-goes p true run c cs h.1 n (ap (λ x. ends_plain p x (c ∷ cs)) (flag-true run) ∙ e))
    ∙ ap (λ x. cond x ([], b ∷ (run ++ c ∷ cs)) (b ∷ ((run ++ c ∷ []) ++ more.0), more.1)) (ap is_empty (append_assoc run (c ∷ []) more.0) ∙ some-empty run c more.0)

-- ---- in terms of offsets

cells_at-two : (bytes : List ℕ) (i n m : ℕ) → cells_at bytes i (n + m) ≡ cells_at bytes i n ++ cells_at bytes (i + n) m
cells_at-two bytes i zero m = let e : i + 0 ≡ i = omega arith in let f : 0 + m ≡ m = omega arith in rw (e, f) refl
cells_at-two bytes i (suc n) m =
    let e : suc n + m ≡ suc (n + m) = omega arith in
    let f : i + suc n ≡ suc i + n = omega arith in
    rw (e, f) (ap (λ cs. (slice_index bytes i, i) ∷ cs) (cells_at-two bytes (suc i) n m))

pub cells_between-two : (bytes : List ℕ) (i j k : ℕ) → i ≤ j → j ≤ k → cells_between bytes i k ≡ cells_between bytes i j ++ cells_between bytes j k
cells_between-two bytes i j k h l =
    let e : k - i ≡ (j - i) + (k - j) = omega arith in
    let f : i + (j - i) ≡ j = omega arith in
    ap (cells_at bytes i) e ∙ cells_at-two bytes i (j - i) (k - j) ∙ ap (λ a. cells_between bytes i j ++ cells_at bytes a (k - j)) f

flag-cases : (bytes : List ℕ) (f : Bool) (i j : ℕ) → (i ≡ j) ⊎ (i < j) → flag_after f (cells_between bytes i j) ≡ (f || nat_lt i j)
flag-cases bytes true i j h = flag-true (cells_between bytes i j)
flag-cases bytes false i j (inl e) = rw (e, cells_between-none bytes j) (grind (arith, common_steps))
flag-cases bytes false i j (inr l) = rw (cells_between-front bytes i j l) (grind (arith, common_steps, l))

-- A blank precedes j if one preceded i or the run isn't empty.
pub flag-value : (bytes : List ℕ) (f : Bool) (i j : ℕ) → i ≤ j → flag_after f (cells_between bytes i j) ≡ (f || nat_lt i j)
flag-value bytes f i j h = flag-cases bytes f i j (eq-or-lt_of_le h)

-- the part ends at i
pub part_done : (p : Context) (first f : Bool) (bytes : List ℕ) (at i j : ℕ) → plain_part p first (text_at bytes at) ≡ in_front (cells_between bytes at i) (plain_part p f (text_at bytes i))
    → RunBefore (cells_between bytes i j) (lines_at bytes i) (lines_at bytes j) → AreBlank (cells_between bytes i j) → i ≤ j
    → true ≡ ends_plain p (f || nat_lt i j) (text_at bytes j) → PartTo p first bytes at i
part_done p first f bytes at i j e r b h s =
    let run = cells_between bytes i j in
    let own = ap (plain_part p f) r.text ∙ part-ends p f run (text_at bytes j) b (ap (λ x. ends_plain p x (text_at bytes j)) (flag-value bytes f i j h) ∙ sym s) ∙ ap (λ t. ([], t)) (sym r.text) in
    e ∙ ap (in_front (cells_between bytes at i)) own ∙ ap (λ t. (t, text_at bytes i)) (append-nil (cells_between bytes at i))

-- the part continues with the byte at j
pub part_more : (p : Context) (first f : Bool) (bytes : List ℕ) (at i j : ℕ) → plain_part p first (text_at bytes at) ≡ in_front (cells_between bytes at i) (plain_part p f (text_at bytes i))
    → RunBefore (cells_between bytes i j) (lines_at bytes i) (lines_at bytes j) → AreBlank (cells_between bytes i j) → at ≤ i → i ≤ j → j ≤ length bytes → (IsLineEnd bytes j → ⊥)
    → (IsBlankByte (slice_index bytes j) → ⊥) → false ≡ ends_plain p (f || nat_lt i j) (text_at bytes j)
    → plain_part p first (text_at bytes at) ≡ in_front (cells_between bytes at (j + 1)) (plain_part p false (text_at bytes (j + 1)))
part_more p first f bytes at i j e r b o h l k n s =
    let run = cells_between bytes i j in
    let c : Cell = (slice_index bytes j, j) in
    let t = text_at-cell bytes j l k in
    let more = plain_part p false (text_at bytes (j + 1)) in
    let own = ap (plain_part p f) (r.text ∙ ap (λ t. run ++ t) t)
    ∙ part-goes p f run c (text_at bytes (j + 1)) b n (ap (λ x. ends_plain p x (c ∷ text_at bytes (j + 1))) (flag-value bytes f i j h) ∙ ap (ends_plain p (f || nat_lt i j)) (sym t) ∙ sym s) in
    let cells : cells_between bytes at (j + 1) ≡ cells_between bytes at i
    ++ (run ++ c ∷ []) = cells_between-two bytes at i (j + 1) o (omega arith)
    ∙ ap (λ t. cells_between bytes at i ++ t) (cells_between-more bytes i j h) in
    e ∙ ap (in_front (cells_between bytes at i)) own ∙ ap (λ t. (t, more.1)) (sym (append_assoc (cells_between bytes at i) (run ++ c ∷ []) more.0) ∙ ap (λ t. t ++ more.0) (sym cells))

-- ---- bytes of words

module _ (b : ℕ) (w : IsWordByte b) where
  word-feed : b ≢ 10
  word-feed e = omega (arith, e, w.solid)

  word-return : b ≢ 13
  word-return e = omega (arith, e, w.solid)

  word-blank : IsBlankByte b → ⊥
  word-blank (inl e) = omega (arith, e, w.solid)
  word-blank (inr e) = omega (arith, e, w.solid)

  word-ends : (p : Context) (f : Bool) (i : ℕ) (cs : List Cell) → ends_plain p f ((b, i) ∷ cs) ≡ false
  word-ends p f i cs = ends-other p f (b, i) cs w.no_colon w.no_hash ∙ ap (λ x. is_flow p && x) w.no_indicator ∙ and-false (is_flow p)

module _ (bytes : List ℕ) (i : ℕ) (w : IsWordAt bytes i) where
  word-no_end : IsLineEnd bytes i → ⊥
  word-no_end h = elim (h w.0) [ inl e ↦ word-feed (slice_index bytes i) w.1 e | inr e ↦ word-return (slice_index bytes i) w.1 e ]

  -- The part continues after a byte of a word.
  pub part_word : (p : Context) (first f : Bool) (at : ℕ) → plain_part p first (text_at bytes at) ≡ in_front (cells_between bytes at i) (plain_part p f (text_at bytes i)) → at ≤ i
      → plain_part p first (text_at bytes at) ≡ in_front (cells_between bytes at (i + 1)) (plain_part p false (text_at bytes (i + 1)))
  part_word p first f at e o =
      let within : i ≤ length bytes = omega (arith, w.0) in
      part_more p first f bytes at i i e (run-none bytes i) (subst AreBlank (sym (cells_between-none bytes i)) tt) o (omega arith) within word-no_end
      (word-blank (slice_index bytes i) w.1)
      (sym (ap (ends_plain p (f || nat_lt i i)) (text_at-cell bytes i within word-no_end) ∙ word-ends (slice_index bytes i) w.1 p (f || nat_lt i i) i (text_at bytes (i + 1))))

  pub same_word : SameLine (lines_at bytes i) (lines_at bytes (i + 1))
  same_word = (cell_at bytes i w.0 (word-feed (slice_index bytes i) w.1) (word-return (slice_index bytes i) w.1)).same

-- ---- the code's tests at an offset

module _ (p : Context) (bytes : List ℕ) (i : ℕ) (inside : i ≤ length bytes) where
  pub ends_key-cell : (x : Bool) → false ≡ is_blank_or_end (text_at bytes i) → x ≡ (is_flow p && is_flow_indicator (slice_index bytes i)) → x ≡ ends_key p (text_at bytes i)
  ends_key-cell x h e =
      let cell = text_at-cell bytes i inside (λ k. never (h ∙ sym (blank_or_end-end bytes i inside k))) in
      e ∙ sym (ap (λ t. is_flow p && begins_flow_indicator t) cell) ∙ ap (λ b. b || (is_flow p && begins_flow_indicator (text_at bytes i))) h

  pub ends-end : (f : Bool) → IsLineEnd bytes i → true ≡ ends_plain p f (text_at bytes i)
  ends-end f k = sym (ap (ends_plain p f) (text-line_end bytes i inside k))

  module _ (k : IsLineEnd bytes i → ⊥) where
    pub ends_at-colon : (f x : Bool) → slice_index bytes i ≡ 58 → x ≡ ends_key p (text_at bytes (i + 1)) → x ≡ ends_plain p f (text_at bytes i)
    ends_at-colon f x e h = h ∙ sym (ends-colon p f (slice_index bytes i, i) (text_at bytes (i + 1)) e) ∙ sym (ap (ends_plain p f) (text_at-cell bytes i inside k))

    pub ends_at-hash : (f : Bool) → slice_index bytes i ≡ 35 → f ≡ ends_plain p f (text_at bytes i)
    ends_at-hash f e = sym (ends-hash p f (slice_index bytes i, i) (text_at bytes (i + 1)) e) ∙ sym (ap (ends_plain p f) (text_at-cell bytes i inside k))

    pub ends_at-other : (f x : Bool) → slice_index bytes i ≢ 58 → slice_index bytes i ≢ 35 → x ≡ (is_flow p && is_flow_indicator (slice_index bytes i)) → x ≡ ends_plain p f (text_at bytes i)
    ends_at-other f x n m h = h ∙ sym (ends-other p f (slice_index bytes i, i) (text_at bytes (i + 1)) n m) ∙ sym (ap (ends_plain p f) (text_at-cell bytes i inside k))
