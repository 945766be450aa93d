-- What is read on a line of block context: keys, and scalars with the rest of their line.
use Rattle.std.proofs.Common.{◌≡◌, ℕ, zero, suc, ◌+◌, ◌-◌, ◌<◌, ◌≤◌, List, [], ◌∷◌, length, take, slice_index, refl, sym, ap, ◌∙◌, arith}
use Rattle.std.proofs.Common.{Bool, true, false, cond, if◌then◌else◌, Option, Some, None, Result, Ok, Err, IfOk}
use Rattle.std.specs.Prelude.{option_map}
use Rattle.std.proofs.lemmas.List.{get_or-take, length-take}
use Rattle.al_scalar.specs.ReadScalar.{read_of}
use Rattle.al_scalar.specs.Line.{Cell, Line, blanks_dropped, with_cell, past}
use Rattle.al_scalar.specs.Places.{first_text, first_end, lines_at, text_at}
use Rattle.al_scalar.specs.LineEnds.{IsLineEnd}
use Rattle.al_scalar.specs.Plain.{block}
use Rattle.al_scalar.specs.Scalar as value
use Rattle.al_scalar.specs.Scalar.{scalar_at}
use Rattle.al_scalar.specs.declared.faults.FaultAt.{FaultAt}
use Rattle.al_scalar.specs.declared.scalars.ScalarRead.{ScalarRead}
use Rattle.al_yaml_tree.specs.Node as tree
use Rattle.al_yaml_tree.specs.Reading.{Reading, Part, part, gives, of_result, start_of, ◌>>=◌}
use Rattle.al_yaml_tree.specs.Limits.{broken_limit}
use Rattle.al_yaml_tree.specs.Content.{line_ended}
use Rattle.al_yaml_tree.specs.Blocks.{ending_line, scalar_node_at}
use Rattle.al_yaml_tree.specs.Keys.{Key, is_block_start, one_line, with_lines, plain_on_line, has_colon, key_before_colon}
use Rattle.al_yaml_parts.specs.BlockReads.{after_colon_in_block, option_key}
use Rattle.al_yaml_parts.specs.Places.{IsColon, IsReadInside}
use Rattle.al_yaml_parts.specs.Reads.{State, run, with_nodes, Refuses, Answers}
use Rattle.al_yaml_parts.specs.declared.faults.ReadError.{ReadError}
use Rattle.al_yaml_parts.specs.declared.faults.ReadError.TheVariants as stop
use Rattle.al_scalar.proofs.LineCells.{has_line, lines_at-some, lines-at_end, text-line_end, is_inside}
use Rattle.al_scalar.proofs.LineLemmas.{lines_at-other}
use Rattle.al_scalar.proofs.RestLemmas.{start-at}
use Rattle.al_scalar.proofs.PlacedLemmas.{placed-wider}
use Rattle.al_yaml_parts.proofs.KeyLemmas.{end-more, end-order}
use Rattle.al_scalar.proofs.LineParts.{end-here}
use Rattle.al_yaml_parts.proofs.RunLemmas.{run-start}
use Rattle.al_yaml_parts.proofs.ReadLemmas.{given-ok}

-- ---- a file cut at a line's end

one_of : (ls : List Line) → has_line ls ≡ true → one_line ls ≡ record { text = first_text ls; end = first_end ls; last = true } ∷ []
one_of [] h = cc
one_of (l ∷ ls) h = refl

one_line-with_cell : (c : Cell) (ls : List Line) → one_line (with_cell c ls) ≡ with_cell c (one_line ls)
one_line-with_cell c [] = refl
one_line-with_cell c (l ∷ ls) = refl

with_lines-with_cell : (rest : List Line) (c : Cell) (ls : List Line) → with_lines rest (with_cell c ls) ≡ with_lines rest ls
with_lines-with_cell rest c [] = refl
with_lines-with_cell rest c (l ∷ ls) = refl

with_lines-own : (ls : List Line) → with_lines (one_line ls) ls ≡ ls
with_lines-own [] = refl
with_lines-own (l ∷ ls) = refl

abbrev read_with_lines : List Line → Result value.ScalarRead FaultAt → Result value.ScalarRead FaultAt
read_with_lines ls r = elim r [ Ok r ↦ Ok (record r { left = with_lines r.left ls }) | Err f ↦ Err f ]

module _ (bytes : List ℕ) (e : ℕ) (inside : e ≤ length bytes) (ended : IsLineEnd bytes e) where
  short_length : length (take e bytes) ≡ e
  short_length = omega (arith, length-take e bytes)

  last-line : lines_at (take e bytes) e ≡ one_line (lines_at bytes e)
  last-line =
      let line : List Cell → ℕ → Line = λ t i. record { text = t; end = i; last = true } in
      lines-at_end (take e bytes) e (sym short_length) ∙ ap (λ t. line t e ∷ []) (sym (text-line_end bytes e inside ended))
      ∙ ap (λ i. line (text_at bytes e) i ∷ []) (sym (end-here bytes e inside ended))
      ∙ sym (one_of (lines_at bytes e) (lines_at-some bytes e))

  module _ (i : ℕ) (before : i < e) (line : first_end (lines_at bytes i) ≡ e) where
    solid : IsLineEnd bytes i → ⊥
    solid k = let here = end-here bytes i (omega arith) k in absurd (omega (arith, here, line))

    whole : lines_at bytes i ≡ with_cell (slice_index bytes i, i) (lines_at bytes (i + 1))
    whole =
        let here = is_inside bytes i (omega arith) solid in
        lines_at-other bytes i here.inside here.not_feed here.not_return

    same_byte : slice_index (take e bytes) i ≡ slice_index bytes i
    same_byte = get_or-take e bytes i 0 before

    short : lines_at (take e bytes) i ≡ with_cell (slice_index bytes i, i) (lines_at (take e bytes) (i + 1))
    short =
        let here = is_inside bytes i (omega arith) solid in
        let room : i < length (take e bytes) = omega (arith, short_length) in
        lines_at-other (take e bytes) i room (λ k. here.not_feed (sym same_byte ∙ k)) (λ k. here.not_return (sym same_byte ∙ k))
        ∙ ap (λ b. with_cell (b, i) (lines_at (take e bytes) (i + 1))) same_byte

    line_on : first_end (lines_at bytes (i + 1)) ≡ e
    line_on =
        let here = is_inside bytes i (omega arith) solid in
        sym (end-more bytes i i here.inside here.not_feed here.not_return refl) ∙ line

  short-lines : (n : ℕ) (i : ℕ) → i + n ≡ e → first_end (lines_at bytes i) ≡ e → lines_at (take e bytes) i ≡ one_line (lines_at bytes i)
  short-lines zero i h k = let here : i ≡ e = omega arith in rw here last-line
  short-lines (suc n) i h k =
      let before : i < e = omega arith in
      let next : i + 1 + n ≡ e = omega arith in
      short i before k ∙ ap (with_cell (slice_index bytes i, i)) (short-lines n (i + 1) next (line_on i before k))
      ∙ sym (one_line-with_cell (slice_index bytes i, i) (lines_at bytes (i + 1))) ∙ ap one_line (sym (whole i before k))

  lines-on : (rest : List Line) (n i j : ℕ) → i + n ≡ j → j ≤ e → first_end (lines_at bytes i) ≡ e → with_lines rest (lines_at bytes i) ≡ with_lines rest (lines_at bytes j)
  lines-on rest zero i j h o k = let here : i ≡ j = omega arith in rw here refl
  lines-on rest (suc n) i j h o k =
      let before : i < e = omega arith in
      let next : i + 1 + n ≡ j = omega arith in
      ap (with_lines rest) (whole i before k) ∙ with_lines-with_cell rest (slice_index bytes i, i) (lines_at bytes (i + 1)) ∙ lines-on rest n (i + 1) j next o (line_on i before k)

  module _ (at : ℕ) (order : at ≤ e) (line : first_end (lines_at bytes at) ≡ e) where
    short_at : lines_at (take e bytes) at ≡ one_line (lines_at bytes at)
    short_at = let gap : at + (e - at) ≡ e = omega arith in short-lines (e - at) at gap line

    left_at : (next : ℕ) → at ≤ next → next ≤ e → with_lines (lines_at (take e bytes) next) (lines_at bytes at) ≡ lines_at bytes next
    left_at next h k =
        let one = end-order bytes at next h (omega arith) in
        let two = end-order bytes next e k inside in
        let here = end-here bytes e inside ended in
        let same : first_end (lines_at bytes next) ≡ e = omega (arith, one, two, here, line) in
        let gap : next + (e - next) ≡ e = omega arith in
        let step : at + (next - at) ≡ next = omega arith in
        ap (λ r. with_lines r (lines_at bytes at)) (short-lines (e - next) next gap same)
        ∙ lines-on (one_line (lines_at bytes next)) (next - at) at next step k line ∙ with_lines-own (lines_at bytes next)

    plain_at : plain_on_line (lines_at bytes at) ≡ read_with_lines (lines_at bytes at) (scalar_at (block 0) (lines_at (take e bytes) at))
    plain_at = ap (λ ls. read_with_lines (lines_at bytes at) (scalar_at (block 0) ls)) (sym short_at)

    pub line_read : (result : Result ScalarRead ReadError) → Answers (read_of (take e bytes))
        (scalar_at (block 0) (lines_at (take e bytes) at)) result → IfOk result (λ r. IsReadInside (take e bytes) at r)
        → Answers (read_of bytes) (plain_on_line (lines_at bytes at)) result
    line_read (Ok r) h k =
        let read : ScalarRead → List Line → value.ScalarRead = λ r left. record { scalar = r.scalar; left = left } in
        let next_in : r.next ≤ e = omega (arith, k.inside, short_length) in
        let next_from : at ≤ r.next = omega (arith, k.from, k.end) in
        plain_at ∙ ap (read_with_lines (lines_at bytes at)) h ∙ ap (λ left. Ok (read r left)) (left_at r.next next_from next_in)
    line_read (Err (stop.Fault f)) h k = plain_at ∙ ap (read_with_lines (lines_at bytes at)) h
    line_read (Err stop.Memory) h k = tt

    pub line_inside : (result : Result ScalarRead ReadError) → IfOk result (λ r. IsReadInside (take e bytes) at r) → IfOk result (λ r. IsReadInside bytes at r)
    line_inside (Ok r) k = record {
      start = k.start;
      from = k.from;
      end = k.end;
      inside = omega (arith, k.inside, short_length);
      placed =
          placed-wider (length (take e bytes)) (length bytes) r.scalar (omega (arith, short_length, inside)) k.placed;
    }
    line_inside (Err s) k = tt

-- ---- keys

abbrev keyed : Result value.ScalarRead FaultAt → Result (Option Key) FaultAt
keyed asked = elim asked [ Ok r ↦ Ok (key_before_colon r) | Err f ↦ Err f ]

pub key-stops : (asked : Result value.ScalarRead FaultAt) (e : ReadError) → Refuses asked e → Refuses (keyed asked) e
key-stops asked (stop.Fault f) h = ap keyed h
key-stops asked stop.Memory h = tt

abbrev pub key_with : value.ScalarRead → Option (List Line) → Option Key
key_with r o = elim o [ None ↦ None | Some left ↦ Some (record { read = r; after = left }) ]

key-by : (r : value.ScalarRead) (left : List Line) (colon : Bool)
    → cond colon (Some (record { read = r; after = left })) None ≡ key_with r (cond colon (Some left) None)
key-by r left true = refl
key-by r left false = refl

key-given : (asked : Result value.ScalarRead FaultAt) (r : value.ScalarRead) (o : Option (List Line)) → asked ≡ Ok r → after_colon_in_block r.left ≡ o
    → keyed asked ≡ Ok (key_with r o)
key-given asked r o h k =
    ap keyed h ∙ ap Ok (key-by r (past 1 (blanks_dropped r.left)) (has_colon r.left)) ∙ ap (λ x. Ok (key_with r x)) k

pub key-seen : (bytes : List ℕ) (asked : Result value.ScalarRead FaultAt) (r : ScalarRead) (o : Option ℕ) → asked ≡ Ok (read_of bytes r)
    → IsColon (after_colon_in_block (lines_at bytes r.next)) bytes r.next o → keyed asked ≡ Ok (option_key bytes (option_map (λ after. record { read = r; after = after }) o))
key-seen bytes asked r None h k = key-given asked (read_of bytes r) None h k
key-seen bytes asked r (Some after) h k = key-given asked (read_of bytes r) (Some (lines_at bytes after)) h k.0

-- ---- a scalar with the rest of its line

abbrev after_scalar : Bool → Part tree.Node → Reading (Part tree.Node)
after_scalar is_block = if is_block then gives else ending_line

module _ (within : ℕ) (n m : State) (bytes : List ℕ) (at : ℕ) (inside : at ≤ length bytes) (fits : broken_limit n.nodes n.text (start_of at 1 0 ∷ []) ≡ None) (more : m ≡ with_nodes 1 n) where
  abbrev pub left_of : value.ScalarRead → Reading (Part tree.Node)
  left_of r = after_scalar (is_block_start (text_at bytes at)) (part (tree.scalar_node r) r.scalar.span.end r.left)

  pub line-starts : run n (scalar_node_at within (lines_at bytes at)) ≡ run m (of_result (scalar_at (block within) (lines_at bytes at)) >>= left_of)
  line-starts = rw (start-at bytes at inside, more) (run-start n 1 at 0 (of_result (scalar_at (block within) (lines_at bytes at)) >>= left_of) fits)

  module _ (r : ScalarRead) (read : scalar_at (block within) (lines_at bytes at) ≡ Ok (read_of bytes r)) where
    abbrev pub found : Part tree.Node
    found = part (tree.scalar_node (read_of bytes r)) r.scalar.span.end (lines_at bytes r.next)

    scalar-read : run n (scalar_node_at within (lines_at bytes at)) ≡ run m (after_scalar (is_block_start (text_at bytes at)) found)
    scalar-read = line-starts ∙ given-ok (scalar_at (block within) (lines_at bytes at)) left_of m (read_of bytes r) read

    pub block-read : true ≡ is_block_start (text_at bytes at) → run n (scalar_node_at within (lines_at bytes at)) ≡ run m (gives found)
    block-read h = scalar-read ∙ ap (λ b. run m (after_scalar b found)) (sym h)

    pub line-read : false ≡ is_block_start (text_at bytes at) → run n (scalar_node_at within (lines_at bytes at))
        ≡ run m (of_result (line_ended (lines_at bytes r.next)) >>= (λ left. gives (part (tree.scalar_node (read_of bytes r)) r.scalar.span.end left)))
    line-read h = scalar-read ∙ ap (λ b. run m (after_scalar b found)) (sym h)
