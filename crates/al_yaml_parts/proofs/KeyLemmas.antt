-- Keys against offsets: their lines, their characters, and the colons after them.
use Rattle.std.specs.Bool.{then_some}
use Rattle.std.proofs.Common.{◌≡◌, ◌≢◌, ℕ, suc, ◌+◌, ◌-◌, ◌<◌, ◌≤◌, List, [], ◌∷◌, drop, length, slice_index, refl, sym, ap, subst, ◌∙◌, arith, Bool, true, false, ◌&&◌, ◌||◌, ◌==◌, cond, Some, None}
use Rattle.std.specs.Prelude.{nat_le}
use Rattle.std.proofs.lemmas.Grind.{common_steps}
use Rattle.al_scalar.proofs.FoldLemmas.{end-with_return}
use Rattle.al_base.specs.Positions.{begins_char}
use Rattle.al_scalar.specs.Line.{Cell, Line, lines, is_break, with_cell, with_return, begins, begins_blank, after_blanks, is_blank_or_end, blanks_dropped, past}
use Rattle.al_scalar.specs.Places.{first_text, first_end, lines_at, text_at}
use Rattle.al_scalar.specs.LineEnds.{IsBreakByte, IsLineEnd}
use Rattle.std.proofs.Common.{zero}
use Rattle.std.proofs.Math.Bool.{or-false}
use Rattle.std.proofs.lemmas.Bool.{and_parts, eq-eqb, eqb-true, ne_eqb, or_right}
use Rattle.al_scalar.specs.Plain.{Context, flow, block, is_value_colon, ends_key, begins_flow_indicator}
use Rattle.al_scalar.proofs.MarkerLemmas.{begins-inside, colon-ends}
use Rattle.al_yaml_tree.specs.Content.{same_line, characters}
use Rattle.al_yaml_tree.specs.Flow as items
use Rattle.al_yaml_parts.specs.BlockReads as block_reads
use Rattle.al_yaml_parts.specs.Places.{IsColon}
use Rattle.al_yaml_parts.proofs.LineLemmas.{solid-lines, past-one}
use Rattle.al_scalar.proofs.LineParts.{blanks_dropped-stays, Kind, at_file_end, at_break, at_byte, kind, end-here}
use Rattle.al_scalar.proofs.LineCells.{has_line, lines-some, lines-at_end, text-line_end, is_inside, never}
use Rattle.al_scalar.proofs.LineLemmas.{lines_at-other}
use Rattle.al_scalar.proofs.PlainLemmas.{text_at-cell}

-- ---- the end of a line

end-with_cell : (c : Cell) (ls : List Line) → first_end (with_cell c ls) ≡ first_end ls
end-with_cell c [] = refl
end-with_cell c (l ∷ ls) = refl

pub end-more : (bytes : List ℕ) (at i : ℕ) → i < length bytes → slice_index bytes i ≢ 10 → slice_index bytes i ≢ 13 → first_end (lines_at bytes at) ≡ first_end (lines_at bytes i)
    → first_end (lines_at bytes at) ≡ first_end (lines_at bytes (i + 1))
end-more bytes at i l n m e = e ∙ ap first_end (lines_at-other bytes i l n m) ∙ end-with_cell (slice_index bytes i, i) (lines_at bytes (i + 1))

end_from-cond : (b d : Bool) (at : ℕ) (c : Cell) (more : List Line) → has_line more ≡ true → at + 1 ≤ first_end more
    → at ≤ first_end (cond b (record { text = []; end = at; last = false } ∷ more) (cond d (with_return at more) (with_cell c more)))
end_from-cond true d at c more h k = omega arith
end_from-cond false true at c more h k = let e = end-with_return at more h in omega (arith, e)
end_from-cond false false at c more h k = let e = end-with_cell c more in omega (arith, e, k)

lines-end : (at : ℕ) (bs : List ℕ) → at ≤ first_end (lines at bs)
lines-end at [] = omega arith
lines-end at (b ∷ bs) = end_from-cond (is_break b bs) (b == 13) at (b, at) (lines (at + 1) bs) (lines-some (at + 1) bs) (lines-end (at + 1) bs)

pub end-from : (bytes : List ℕ) (i : ℕ) → i ≤ first_end (lines_at bytes i)
end-from bytes i = lines-end i (drop i bytes)

pub other_line : (bytes : List ℕ) (from i to : ℕ) → i < to → to ≤ length bytes → IsBreakByte (slice_index bytes i) → first_end (lines_at bytes from) ≡ first_end (lines_at bytes i)
    → false ≡ same_line (lines_at bytes from) (lines_at bytes to)
other_line bytes from i to o h k e =
    let here = end-here bytes i (omega arith) (λ _. k) in
    let there = end-from bytes to in
    sym (ne_eqb (first_end (lines_at bytes from)) (first_end (lines_at bytes to)) (λ d. omega (arith, here, there, e, d)))

-- ---- characters

line_end-before : (bytes : List ℕ) (from i to : ℕ) → i < to → to ≤ length bytes → same_line (lines_at bytes from) (lines_at bytes to) ≡ true
    → first_end (lines_at bytes from) ≡ first_end (lines_at bytes i)
    → IsLineEnd bytes i → ⊥
line_end-before bytes from i to o h s e k =
    let here = end-here bytes i (omega arith) k in
    let there = end-from bytes to in
    never (sym (ne_eqb (first_end (lines_at bytes from)) (first_end (lines_at bytes to)) (λ d. omega (arith, here, there, e, d))) ∙ s)

end-step : (bytes : List ℕ) (i : ℕ) → Kind bytes i → first_end (lines_at bytes i) ≤ first_end (lines_at bytes (i + 1))
end-step bytes i (at_file_end e) =
    let here = ap first_end (lines-at_end bytes i e) in
    let there = end-from bytes (i + 1) in
    omega (arith, here, there)
end-step bytes i (at_break l k) =
    let here = end-here bytes i (omega arith) (λ _. k) in
    let there = end-from bytes (i + 1) in
    omega (arith, here, there)
end-step bytes i (at_byte l k) =
    let same = ap first_end (solid-lines bytes i (omega arith) k) ∙ end-with_cell (slice_index bytes i, i) (lines_at bytes (i + 1)) in
    omega (arith, same)

end-steps : (bytes : List ℕ) (i n : ℕ) → i + n ≤ length bytes → first_end (lines_at bytes i) ≤ first_end (lines_at bytes (i + n))
end-steps bytes i zero h = let e : i + zero ≡ i = omega arith in rw e (omega arith)
end-steps bytes i (suc n) h =
    let below = end-steps bytes i n (omega arith) in
    let step = end-step bytes (i + n) (kind bytes (i + n) (omega arith)) in
    let e : i + suc n ≡ i + n + 1 = omega arith in
    rw e (omega (arith, below, step))

pub end-order : (bytes : List ℕ) (i j : ℕ) → i ≤ j → j ≤ length bytes → first_end (lines_at bytes i) ≤ first_end (lines_at bytes j)
end-order bytes i j h k =
    let e : i + (j - i) ≡ j = omega arith in
    let inside : i + (j - i) ≤ length bytes = omega arith in
    let P : ℕ → Type 0 = λ m. first_end (lines_at bytes i) ≤ first_end (lines_at bytes m) in
    subst P e (end-steps bytes i (j - i) inside)

same_ends : (xs ys : List Line) → same_line xs ys ≡ true → first_end xs ≡ first_end ys
same_ends xs ys h = eqb-true (first_end xs) (first_end ys) h

-- what ends on a line ended on it before
pub same_line-before : (bytes : List ℕ) (from mid to : ℕ) → from ≤ mid → mid ≤ to → to ≤ length bytes → same_line (lines_at bytes from) (lines_at bytes to) ≡ true
    → same_line (lines_at bytes from) (lines_at bytes mid) ≡ true
same_line-before bytes from mid to a b c h =
    let e = same_ends (lines_at bytes from) (lines_at bytes to) h in
    let one = end-order bytes from mid a (omega arith) in
    let two = end-order bytes mid to b c in
    eq-eqb (first_end (lines_at bytes from)) (first_end (lines_at bytes mid)) (omega (arith, e, one, two))

abbrev pub counted_byte : Bool → ℕ → ℕ
counted_byte begins more = cond begins (more + 1) more

characters-cell : (to : ℕ) (c : Cell) (cs : List Cell) (b : Bool) → c.1 < to → b ≡ begins_char c.0 → characters to (c ∷ cs) ≡ counted_byte b (characters to cs)
characters-cell to c cs b h k =
    let less : nat_le to c.1 ≡ false = grind (arith, common_steps, h) in
    ap (λ x. cond x 0 (counted_byte (begins_char c.0) (characters to cs))) less ∙ ap (λ x. counted_byte x (characters to cs)) (sym k)

characters-none : (to : ℕ) (c : Cell) (cs : List Cell) → to ≤ c.1 → characters to (c ∷ cs) ≡ 0
characters-none to c cs h =
    let more : nat_le to c.1 ≡ true = grind (arith, common_steps, h) in
    ap (λ x. cond x 0 (counted_byte (begins_char c.0) (characters to cs))) more

characters-kind : (bytes : List ℕ) (i : ℕ) → Kind bytes i → characters i (text_at bytes i) ≡ 0
characters-kind bytes i (at_file_end e) = ap (λ ls. characters i (first_text ls)) (lines-at_end bytes i e)
characters-kind bytes i (at_break l k) = ap (characters i) (text-line_end bytes i (omega arith) (λ _. k))
characters-kind bytes i (at_byte l k) = ap (characters i) (text_at-cell bytes i (omega arith) k) ∙ characters-none i (slice_index bytes i, i) (text_at bytes (i + 1)) (omega arith)

-- no more than bytes
counted-few : (b : Bool) (n k : ℕ) → n ≤ k → counted_byte b n ≤ suc k
counted-few true n k h = omega (arith, h)
counted-few false n k h = omega (arith, h)

few-kind : (bytes : List ℕ) (i to k : ℕ) → i + suc k ≡ to → Kind bytes i → characters to (text_at bytes (i + 1)) ≤ k → characters to (text_at bytes i) ≤ suc k
few-kind bytes i to k e (at_file_end d) h = let none = ap (λ ls. characters to (first_text ls)) (lines-at_end bytes i d) in omega (arith, none)
few-kind bytes i to k e (at_break l d) h = let none = ap (characters to) (text-line_end bytes i (omega arith) (λ _. d)) in omega (arith, none)
few-kind bytes i to k e (at_byte l d) h =
    let b = begins_char (slice_index bytes i) in
    let one = ap (characters to) (text_at-cell bytes i (omega arith) d) ∙ characters-cell to (slice_index bytes i, i) (text_at bytes (i + 1)) b (omega (arith, e)) refl in
    subst (λ n. n ≤ suc k) (sym one) (counted-few b (characters to (text_at bytes (i + 1))) k h)

pub characters-few : (bytes : List ℕ) (k i to : ℕ) → to ≤ length bytes → i + k ≡ to → characters to (text_at bytes i) ≤ k
characters-few bytes zero i to inside e =
    let none : characters to (text_at bytes i) ≡ 0 = ap (λ j. characters j (text_at bytes i)) (omega (arith, e)) ∙ characters-kind bytes i (kind bytes i (omega (arith, e, inside))) in
    omega (arith, none)
characters-few bytes (suc k) i to inside e =
    few-kind bytes i to k e (kind bytes i (omega (arith, e, inside))) (characters-few bytes k (i + 1) to inside (omega (arith, e)))

pub short-few : (bytes : List ℕ) (at end : ℕ) → at ≤ end → end ≤ length bytes → end - at ≤ 1024 → true ≡ nat_le (characters end (text_at bytes at)) 1024
short-few bytes at end a b h =
    let few = characters-few bytes (end - at) at end b (omega (arith, a)) in
    grind (arith, common_steps, few, h)

module _ (bytes : List ℕ) (from i to : ℕ) (inside : to ≤ length bytes) where
  pub characters-done : i ≡ to → (n : ℕ) → characters to (text_at bytes from) ≡ n + characters to (text_at bytes i) → n ≡ characters to (text_at bytes from)
  characters-done e n h =
      let none : characters to (text_at bytes i) ≡ 0 = ap (λ j. characters j (text_at bytes i)) (sym e) ∙ characters-kind bytes i (kind bytes i (omega arith)) in
      omega (arith, h, none)

  module _ (order : i < to) (same : same_line (lines_at bytes from) (lines_at bytes to) ≡ true) (line : first_end (lines_at bytes from) ≡ first_end (lines_at bytes i)) where
    pub line-goes : first_end (lines_at bytes from) ≡ first_end (lines_at bytes (i + 1))
    line-goes =
        let here = is_inside bytes i (omega arith) (line_end-before bytes from i to order inside same line) in
        end-more bytes from i here.inside here.not_feed here.not_return line

    step-by : (b : Bool) → b ≡ begins_char (slice_index bytes i) → characters to (text_at bytes i) ≡ counted_byte b (characters to (text_at bytes (i + 1)))
    step-by b k =
        ap (characters to) (text_at-cell bytes i (omega arith) (line_end-before bytes from i to order inside same line))
        ∙ characters-cell to (slice_index bytes i, i) (text_at bytes (i + 1)) b order k

    pub characters-own : (n : ℕ) → true ≡ begins_char (slice_index bytes i) → characters to (text_at bytes from) ≡ n + characters to (text_at bytes i)
        → characters to (text_at bytes from) ≡ n + 1 + characters to (text_at bytes (i + 1))
    characters-own n k h = let e = step-by true k in omega (arith, h, e)

    pub characters-same : (n : ℕ) → false ≡ begins_char (slice_index bytes i) → characters to (text_at bytes from) ≡ n + characters to (text_at bytes i)
        → characters to (text_at bytes from) ≡ n + characters to (text_at bytes (i + 1))
    characters-same n k h = let e = step-by false k in omega (arith, h, e)

-- ---- colons

module _ (bytes : List ℕ) (at : ℕ) (inside : at ≤ length bytes) where
  module _ (colon : true ≡ begins 58 (text_at bytes at)) where
    pub block-ends : (r : Bool) → r ≡ is_blank_or_end (text_at bytes (at + 1)) → r ≡ is_value_colon (block 0) (text_at bytes at)
    block-ends r h = colon-ends bytes at inside (block 0) colon r (h ∙ sym (or-false (is_blank_or_end (text_at bytes (at + 1)))))

    pub flow-blank : true ≡ is_blank_or_end (text_at bytes (at + 1)) → true ≡ is_value_colon flow (text_at bytes at)
    flow-blank h = colon-ends bytes at inside flow colon true (ap (λ b. b || begins_flow_indicator (text_at bytes (at + 1))) h)

    pub flow-other : (r : Bool) → false ≡ is_blank_or_end (text_at bytes (at + 1)) → r ≡ begins_flow_indicator (text_at bytes (at + 1)) → r ≡ is_value_colon flow (text_at bytes at)
    flow-other r h k = colon-ends bytes at inside flow colon r (k ∙ ap (λ b. b || begins_flow_indicator (text_at bytes (at + 1))) h)

solid-colon : (bytes : List ℕ) (solid : ℕ) → solid ≤ length bytes → begins 58 (text_at bytes solid) ≡ true → (past 1 (lines_at bytes solid) ≡ lines_at bytes (solid + 1)) × (solid < length bytes)
solid-colon bytes solid inside h =
    let no_end = begins-inside bytes solid 58 inside (sym h) in
    (past-one bytes solid inside no_end, (is_inside bytes solid inside no_end).inside)

no_blank : (t : List Cell) → begins 58 t ≡ true → begins_blank t ≡ false
no_blank [] h = refl
no_blank (c ∷ cs) h = let e : c.0 ≡ 58 = eqb-true c.0 58 h in rw e refl

pub no-value : (p : Context) (t : List Cell) → false ≡ begins 58 t → false ≡ is_value_colon p t
no-value p [] h = refl
no-value p (c ∷ cs) h = ap (λ b. b && ends_key p cs) h

begins-value : (p : Context) (t : List Cell) → true ≡ is_value_colon p t → begins 58 t ≡ true
begins-value p [] h = absurd (never (sym h))
begins-value p (c ∷ cs) h = (and_parts (c.0 == 58) (ends_key p cs) (sym h)).0

pub blanks_text : (ls : List Line) → first_text (blanks_dropped ls) ≡ after_blanks (first_text ls)
blanks_text [] = refl
blanks_text (l ∷ ls) = refl

module _ (bytes : List ℕ) (at solid : ℕ) (from : at ≤ solid) (inside : solid ≤ length bytes) (e : blanks_dropped (lines_at bytes at) ≡ lines_at bytes solid) where
  text_solid : after_blanks (text_at bytes at) ≡ text_at bytes solid
  text_solid = sym (blanks_text (lines_at bytes at)) ∙ ap first_text e

  found_by : (p : Context) (b : Bool) → true ≡ is_value_colon p (text_at bytes solid)
      → IsColon (cond (b || is_value_colon p (after_blanks (text_at bytes at))) (Some (past 1 (blanks_dropped (lines_at bytes at)))) None) bytes at (Some (solid + 1))
  found_by p b h =
      let both = solid-colon bytes solid inside (begins-value p (text_at bytes solid) h) in
      let l : solid < length bytes = both.1 in
      let value : (b || is_value_colon p (after_blanks (text_at bytes at))) ≡ true = or_right b _ (ap (is_value_colon p) text_solid ∙ sym h) in
      (ap (λ x. cond x (Some (past 1 (blanks_dropped (lines_at bytes at)))) None) value ∙ ap (λ ls. Some (past 1 ls)) e ∙ ap Some both.0, omega arith, omega arith)

  pub block-by : (b : Bool) → b ≡ is_value_colon (block 0) (text_at bytes solid) → IsColon (block_reads.after_colon_in_block (lines_at bytes at)) bytes at (then_some b (solid + 1))
  block-by true h = found_by (block 0) false h
  block-by false h = ap (λ b. cond b (Some (past 1 (blanks_dropped (lines_at bytes at)))) None) (ap (is_value_colon (block 0)) text_solid ∙ sym h)

  flow_found : (q : Bool) → true ≡ is_value_colon flow (text_at bytes solid) → IsColon (items.after_colon_in_flow q (lines_at bytes at)) bytes at (Some (solid + 1))
  flow_found q h = found_by flow (q && begins 58 (text_at bytes at)) h

  flow_missed : (q : Bool) → false ≡ (q && begins 58 (text_at bytes at)) → false ≡ is_value_colon flow (text_at bytes solid)
      → items.after_colon_in_flow q (lines_at bytes at) ≡ None
  flow_missed q h k =
      ap (λ b. cond (b || is_value_colon flow (after_blanks (text_at bytes at))) (Some (past 1 (blanks_dropped (lines_at bytes at)))) None) (sym h)
      ∙ ap (λ b. cond b (Some (past 1 (blanks_dropped (lines_at bytes at)))) None) (ap (is_value_colon flow) text_solid ∙ sym k)

  pub flow-by : (q b : Bool) → false ≡ (q && begins 58 (text_at bytes at)) → b ≡ is_value_colon flow (text_at bytes solid)
      → IsColon (items.after_colon_in_flow q (lines_at bytes at)) bytes at (then_some b (solid + 1))
  flow-by q true h k = flow_found q k
  flow-by q false h k = flow_missed q h k

pub quoted_found : (bytes : List ℕ) (at : ℕ) (q : Bool) → at ≤ length bytes → true ≡ (q && begins 58 (text_at bytes at))
    → IsColon (items.after_colon_in_flow q (lines_at bytes at)) bytes at (Some (at + 1))
quoted_found bytes at q inside h =
    let colon : begins 58 (text_at bytes at) ≡ true = (and_parts q (begins 58 (text_at bytes at)) (sym h)).1 in
    let both = solid-colon bytes at inside colon in
    let l : at < length bytes = both.1 in (
      ap (λ x. cond (x || is_value_colon flow (after_blanks (text_at bytes at))) (Some (past 1 (blanks_dropped (lines_at bytes at)))) None) (sym h)
          ∙ ap (λ ls. Some (past 1 ls)) (blanks_dropped-stays (lines_at bytes at) (no_blank (text_at bytes at) colon)) ∙ ap Some both.0,
      omega arith,
      omega arith,
    )
