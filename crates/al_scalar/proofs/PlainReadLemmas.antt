-- The steps of the reader of plain scalars, line by line.
use Rattle.std.proofs.Common.{◌≡◌, ℕ, ◌+◌, ◌<◌, ◌≤◌, List, [], ◌∷◌, ◌++◌, length, drop, slice_index, refl, sym, ap, ◌∙◌, append_assoc}
use Rattle.std.proofs.Common.{append-nil, Bool, true, false, not, ◌&&◌, ◌==◌, cond, inl, inr, Result, Ok, Err}
use Rattle.std.proofs.lemmas.Bool.{and_parts, not-false, not-true}
use Rattle.al_base.specs.declared.codes.YamlCode.TheVariants.{UnexpectedCharacter}
use Rattle.al_scalar.specs.Line.{Cell, Line, lines, with_cell, with_return, is_break, place, cut, after_blanks, is_empty}
use Rattle.al_scalar.specs.Taken.{Taken, before, fault, folded_break}
use Rattle.al_scalar.specs.declared.faults.FaultAt.{FaultAt}
use Rattle.al_scalar.specs.Plain.{Context, is_flow, is_value_colon, plain_part, continues, ended_before, plain_lines, plain}
use Rattle.al_scalar.specs.Places.{first_text, first_end, lines_at, text_at}
use Rattle.al_scalar.specs.LineEnds.{cells_between, with_cells_before, AreBlank, IsBlankByte, IsBreakAt, SameLine, broken_line, first_last, later}
use Rattle.al_scalar.specs.Private.PlainLines.{is_blank_line, begins_blank_line, text_lines, empty_ends, here_at, after_part, PartTo}
use Rattle.al_scalar.proofs.LineCells.{has_line, lines_at-some, never}
use Rattle.al_scalar.proofs.FoldLemmas.{before-two}
use Rattle.al_scalar.proofs.OffsetLemmas.{choose}
use Rattle.al_scalar.proofs.RestLemmas.{text_kind, place-same}
use Rattle.al_scalar.proofs.BlankLemmas.{after_blanks-none, no_blank_line}

-- ---- the text at an offset

-- The first cell of the text at j has offset j.
place-colon : (p : Context) (bytes : List ℕ) (j z : ℕ) → j ≤ length bytes → is_value_colon p (text_at bytes j) ≡ true → place (text_at bytes j) z ≡ j
place-colon p bytes j z h e = elim (text_kind bytes j h) [
  | inl n ↦ absurd (never (sym (ap (is_value_colon p) n) ∙ e))
  | inr k ↦ ap (λ t. place t z) k.1
]

-- ---- no line follows the last one

abbrev LastAlone : List Line → Type 0
LastAlone ls = first_last ls ≡ true → later ls ≡ []

alone-with_cell : (c : Cell) (ls : List Line) → LastAlone ls → LastAlone (with_cell c ls)
alone-with_cell c [] h = λ e. refl
alone-with_cell c (l ∷ ls) h = h

alone-with_return : (at : ℕ) (ls : List Line) → LastAlone ls → LastAlone (with_return at ls)
alone-with_return at [] h = λ e. refl
alone-with_return at (l ∷ ls) h = h

alone-broken : (at : ℕ) (ls : List Line) → LastAlone (broken_line at ∷ ls)
alone-broken at ls = λ e. absurd (never e)

last-alone : (at : ℕ) (bs : List ℕ) → LastAlone (lines at bs)
last-alone at [] = λ e. refl
last-alone at (b ∷ bs) =
    let more = lines (at + 1) bs in
    let below = last-alone (at + 1) bs in
    choose LastAlone (is_break b bs) (λ _. alone-broken at more)
    (λ _. choose LastAlone (b == 13) (λ _. alone-with_return at more below) (λ _. alone-with_cell (b, at) more below))

-- ---- after a part of the scalar

abbrev after_lines : Context → Taken → List Line → Result Taken FaultAt
after_lines p here ls = cond (is_empty (after_blanks (first_text ls))) (plain_lines p here (first_end ls) [] (later ls)) (Ok here)

-- The scalar ends here if more text follows on the line, or if the line is the last one.
after-stop : (p : Context) (here : Taken) (ls : List Line) → LastAlone ls → begins_blank_line ls ≡ false → after_lines p here ls ≡ Ok here
after-stop p here [] a h = refl
after-stop p here (l ∷ ls) a h = by_text (is_empty (after_blanks l.text)) refl h
  where
    by_text : (x : Bool) → is_empty (after_blanks l.text) ≡ x → (x && not l.last) ≡ false → after_lines p here (l ∷ ls) ≡ Ok here
    by_text true e h = rw (e, a (not-false l.last h)) refl
    by_text false e h = rw e refl

before-here : (text : List Cell) (bytes : List ℕ) (end : ℕ) → before text (Ok (here_at bytes end)) ≡ Ok (record { text = text; end = end; left = lines_at bytes end })
before-here text bytes end = ap (λ t. Ok (record { text = t; end = end; left = lines_at bytes end })) (append-nil text)

-- no break follows the part and the blanks after it
pub read_done : {x : Result Taken FaultAt} (p : Context) (bytes : List ℕ) (end j : ℕ) (text : List Cell) → x ≡ before text (after_part p bytes end) → j ≤ length bytes
    → lines_at bytes end ≡ with_cells_before (cells_between bytes end j) (lines_at bytes j) → AreBlank (cells_between bytes end j) → (IsBreakAt bytes j → ⊥)
    → (j < length bytes → IsBlankByte (slice_index bytes j) → ⊥) → x ≡ Ok (record { text = text; end = end; left = lines_at bytes end })
read_done p bytes end j text e h f b k n =
    e ∙ ap (before text) (after-stop p (here_at bytes end) (lines_at bytes end) (last-alone end (drop end bytes)) (no_blank_line bytes end j h f b k n)) ∙ before-here text bytes end

after-break : (p : Context) (here : Taken) (run : List Cell) (s : ℕ) (ls : List Line) → AreBlank run → after_lines p here (with_cells_before run (broken_line s ∷ ls)) ≡ plain_lines p here s [] ls
after-break p here run s ls h = ap (λ t. cond (is_empty t) (plain_lines p here s [] ls) (Ok here)) (after_blanks-none run h)

-- ---- skipping blank lines

skip-line : (p : Context) (here : Taken) (break : ℕ) (es : List ℕ) (l : Line) (ls : List Line) (b : Bool) → is_blank_line l ≡ b
    → plain_lines p here break (es ++ l.end ∷ []) ls ≡ plain_lines p here break ((es ++ l.end ∷ []) ++ empty_ends ls) (text_lines ls)
    → plain_lines p here break es (l ∷ ls) ≡ plain_lines p here break (es ++ cond b (l.end ∷ empty_ends ls) []) (cond b (text_lines ls) (l ∷ ls))
skip-line p here break es l ls false e below = ap (λ es. plain_lines p here break es (l ∷ ls)) (sym (append-nil es))
skip-line p here break es l ls true e below =
    let blank : is_empty (after_blanks l.text) ≡ true = (and_parts (is_empty (after_blanks l.text)) (not l.last) e).0 in
    skipped p here break es l ls blank ∙ below ∙ ap (λ es. plain_lines p here break es (text_lines ls)) (append_assoc es (l.end ∷ []) (empty_ends ls))
  where
    skipped : (p : Context) (here : Taken) (break : ℕ) (es : List ℕ) (l : Line) (ls : List Line) → is_empty (after_blanks l.text) ≡ true
        → plain_lines p here break es (l ∷ ls) ≡ plain_lines p here break (es ++ l.end ∷ []) ls
    skipped p here break es l ls e = rw e refl

-- `plain_lines` collects the breaks of blank lines.
skip : (p : Context) (here : Taken) (break : ℕ) (es : List ℕ) (ls : List Line) → plain_lines p here break es ls ≡ plain_lines p here break (es ++ empty_ends ls) (text_lines ls)
skip p here break es [] = refl
skip p here break es (l ∷ ls) =
    skip-line p here break es l ls (is_blank_line l) refl (skip p here break (es ++ l.end ∷ []) ls)

-- ---- a line that doesn't continue the scalar

stops-with : (p : Context) (here : Taken) (break : ℕ) (es : List ℕ) (l : Line) (ls : List Line) (x : Bool) → is_empty (after_blanks l.text) ≡ x → (l.last ≡ true → ls ≡ []) → (x && not l.last) ≡ false
    → (not x && continues p l.text) ≡ false → plain_lines p here break es (l ∷ ls) ≡ Ok here
stops-with p here break es l ls true e a h k = rw (e, a (not-false l.last h)) refl
stops-with p here break es l ls false e a h k = rw (e, k) refl

stops : (p : Context) (here : Taken) (break : ℕ) (es : List ℕ) (ls : List Line) → LastAlone ls → begins_blank_line ls ≡ false
    → (not (is_empty (after_blanks (first_text ls))) && continues p (first_text ls)) ≡ false
    → plain_lines p here break es ls ≡ Ok here
stops p here break es [] a h k = refl
stops p here break es (l ∷ ls) a h k = stops-with p here break es l ls (is_empty (after_blanks l.text)) refl a h k

-- the next line with text after a break
pub found_at : {x : Result Taken FaultAt} (p : Context) (bytes : List ℕ) (end j next start : ℕ) (text : List Cell) → x ≡ before text (after_part p bytes end)
    → lines_at bytes end ≡ with_cells_before (cells_between bytes end j) (lines_at bytes j) → AreBlank (cells_between bytes end j) → lines_at bytes j ≡ broken_line j ∷ lines_at bytes next
    → text_lines (lines_at bytes next) ≡ lines_at bytes start → x ≡ before text (plain_lines p (here_at bytes end) j (empty_ends (lines_at bytes next)) (lines_at bytes start))
found_at p bytes end j next start text e f b k m =
    let here = here_at bytes end in
    e ∙ ap (λ ls. before text (after_lines p here ls)) (f ∙ ap (with_cells_before (cells_between bytes end j)) k)
    ∙ ap (before text) (after-break p here (cells_between bytes end j) j (lines_at bytes next) b ∙ skip p here j [] (lines_at bytes next)
    ∙ ap (plain_lines p here j (empty_ends (lines_at bytes next))) m)

pub read_stopped : {x : Result Taken FaultAt} (p : Context) (bytes : List ℕ) (end j start solid : ℕ) (es : List ℕ) (text : List Cell) → x
    ≡ before text (plain_lines p (here_at bytes end) j es (lines_at bytes start))
    → begins_blank_line (lines_at bytes start) ≡ false → after_blanks (text_at bytes start) ≡ text_at bytes solid → false ≡ (not (is_empty (text_at bytes solid)) && continues p (text_at bytes start))
    → x ≡ Ok (record { text = text; end = end; left = lines_at bytes end })
read_stopped p bytes end j start solid es text e h f g =
    e ∙ ap (before text) (stops p (here_at bytes end) j es (lines_at bytes start) (last-alone start (drop start bytes)) h
    (ap (λ t. not (is_empty t) && continues p (text_at bytes start)) f ∙ sym g)) ∙ before-here text bytes end

-- ---- a line that continues the scalar

-- the rest of the scalar, given the part of this line
abbrev line_given : Context → ℕ → List ℕ → Line → List Line → List Cell × List Cell → Result Taken FaultAt
line_given p break es l ls part =
    cond (not (is_flow p) && is_value_colon p (after_blanks part.1)) (fault UnexpectedCharacter (place (after_blanks part.1) l.end))
    (before (folded_break break es ++ part.0) (after_lines p (ended_before part.1 l ls) (cut part.1 l ls)))

goes-step : (p : Context) (here : Taken) (break : ℕ) (es : List ℕ) (l : Line) (ls : List Line) → is_empty (after_blanks l.text) ≡ false → continues p l.text ≡ true
    → plain_lines p here break es (l ∷ ls) ≡ line_given p break es l ls (plain_part p true (after_blanks l.text))
goes-step p here break es l ls e k = rw (e, k) refl

module _ (p : Context) (here : Taken) (break : ℕ) (es : List ℕ) (t cells : List Cell) where
  goes-given : (l : Line) (ls : List Line) (rest : List Cell) → after_blanks l.text ≡ t → is_empty t ≡ false → continues p l.text ≡ true → plain_part p true t ≡ (cells, rest)
      → plain_lines p here break es (l ∷ ls) ≡ line_given p break es l ls (cells, rest)
  goes-given l ls rest f e k m = goes-step p here break es l ls (ap is_empty f ∙ e) k ∙ ap (λ x. line_given p break es l ls (plain_part p true x)) f ∙ ap (line_given p break es l ls) m

  goes-key : (xs ys : List Line) → has_line xs ≡ true → has_line ys ≡ true → after_blanks (first_text xs) ≡ t → is_empty t ≡ false → continues p (first_text xs) ≡ true
      → plain_part p true t ≡ (cells, first_text ys) → (not (is_flow p) && is_value_colon p (after_blanks (first_text ys))) ≡ true
      → plain_lines p here break es xs ≡ fault UnexpectedCharacter (place (after_blanks (first_text ys)) (first_end xs))
  goes-key [] ys h k f e g m n = cc
  goes-key (x ∷ xs) [] h k f e g m n = cc
  goes-key (x ∷ xs) (y ∷ ys) h k f e g m n =
      goes-given x xs y.text f e g m
      ∙ ap (λ b. cond b (fault UnexpectedCharacter (place (after_blanks y.text) x.end)) (before (folded_break break es ++ cells) (after_lines p (ended_before y.text x xs) (cut y.text x xs)))) n

  goes-on : (end : ℕ) (xs ys : List Line) → has_line xs ≡ true → has_line ys ≡ true → SameLine xs ys → after_blanks (first_text xs) ≡ t → is_empty t ≡ false → continues p (first_text xs) ≡ true
      → plain_part p true t ≡ (cells, first_text ys) → (not (is_flow p) && is_value_colon p (after_blanks (first_text ys))) ≡ false → place (first_text ys) (first_end xs) ≡ end
      → plain_lines p here break es xs ≡ before (folded_break break es ++ cells) (after_lines p (record { text = []; end = end; left = ys }) ys)
  goes-on end [] ys h k s f e g m n z = cc
  goes-on end (x ∷ xs) [] h k s f e g m n z = cc
  goes-on end (x ∷ xs) (y ∷ ys) h k s f e g m n z =
      goes-given x xs y.text f e g m
      ∙ rw (n, z, s.end, s.last, s.later) refl

-- the first line
begins-on : (p : Context) (cells : List Cell) (end : ℕ) (xs ys : List Line) → has_line xs ≡ true → has_line ys ≡ true → SameLine xs ys → plain_part p false (first_text xs) ≡ (cells, first_text ys)
    → place (first_text ys) (first_end xs) ≡ end → plain p xs ≡ before cells (after_lines p (record { text = []; end = end; left = ys }) ys)
begins-on p cells end [] ys h k s m z = cc
begins-on p cells end (x ∷ xs) [] h k s m z = cc
begins-on p cells end (x ∷ xs) (y ∷ ys) h k s m z = rw (m, z, s.end, s.last, s.later) refl

-- the part of a later line is from `solid` to `end`; `rest` is the offset after the blanks that follow it
module _ (p : Context) (bytes : List ℕ) (start solid end rest : ℕ) (text : after_blanks (text_at bytes start) ≡ text_at bytes solid)
    (goes : true ≡ (not (is_empty (text_at bytes solid)) && continues p (text_at bytes start))) (part : PartTo p true bytes solid end)
    (after : after_blanks (text_at bytes end) ≡ text_at bytes rest) where
  has_text : is_empty (text_at bytes solid) ≡ false
  has_text = not-true (is_empty (text_at bytes solid)) (and_parts (not (is_empty (text_at bytes solid))) (continues p (text_at bytes start)) (sym goes)).0

  goes_on : continues p (text_at bytes start) ≡ true
  goes_on = (and_parts (not (is_empty (text_at bytes solid))) (continues p (text_at bytes start)) (sym goes)).1

  pub read_more : {x : Result Taken FaultAt} {mid new : List Cell} (here : Taken) (break : ℕ) (es : List ℕ) (old : List Cell) → false
      ≡ (not (is_flow p) && is_value_colon p (text_at bytes rest)) → end ≤ length bytes
      → SameLine (lines_at bytes start) (lines_at bytes end) → x ≡ before old (plain_lines p here break es (lines_at bytes start)) → mid
      ≡ old ++ folded_break break es → new ≡ mid ++ cells_between bytes solid end
      → x ≡ before new (after_part p bytes end)
  read_more here break es old n o s e f g =
      let cells = cells_between bytes solid end in
      let no_colon = ap (λ t. not (is_flow p) && is_value_colon p t) after ∙ sym n in
      e ∙ ap (before old) (goes-on p here break es (text_at bytes solid) cells end (lines_at bytes start) (lines_at bytes end)
      (lines_at-some bytes start) (lines_at-some bytes end) s text has_text goes_on part no_colon
      (place-same bytes start end o s))
      ∙ before-two old (folded_break break es ++ cells) (after_part p bytes end)
      ∙ ap (λ t. before t (after_part p bytes end)) (sym (append_assoc old (folded_break break es) cells) ∙ ap (λ t. t ++ cells) (sym f) ∙ sym g)

  pub read_key : {x : Result Taken FaultAt} (here : Taken) (break : ℕ) (es : List ℕ) (old : List Cell) → rest ≤ length bytes → true ≡ (not (is_flow p) && is_value_colon p (text_at bytes rest))
      → x ≡ before old (plain_lines p here break es (lines_at bytes start)) → x ≡ Err (record { code = UnexpectedCharacter; at = rest })
  read_key here break es old h n e =
      let colon = (and_parts (not (is_flow p)) (is_value_colon p (text_at bytes rest)) (sym n)).1 in
      let z = first_end (lines_at bytes start) in
      e ∙ ap (before old) (goes-key p here break es (text_at bytes solid) (cells_between bytes solid end) (lines_at bytes start)
      (lines_at bytes end) (lines_at-some bytes start) (lines_at-some bytes end) text has_text goes_on part
      (ap (λ t. not (is_flow p) && is_value_colon p t) after ∙ sym n))
      ∙ ap (λ a. Err (record { code = UnexpectedCharacter; at = a })) (ap (λ t. place t z) after ∙ place-colon p bytes rest z h colon)

pub read_first : {old new : List Cell} (p : Context) (bytes : List ℕ) (at end : ℕ) → end ≤ length bytes → PartTo p false bytes at end
    → SameLine (lines_at bytes at) (lines_at bytes end) → old ≡ [] → new ≡ old ++ cells_between bytes at end → plain p (lines_at bytes at) ≡ before new (after_part p bytes end)
read_first p bytes at end o m s f g =
    let cells = cells_between bytes at end in
    begins-on p cells end (lines_at bytes at) (lines_at bytes end) (lines_at-some bytes at) (lines_at-some bytes end) s m (place-same bytes at end o s)
    ∙ ap (λ t. before t (after_part p bytes end)) (ap (λ t. t ++ cells) (sym f) ∙ sym g)
