-- The table of the offsets at which lines begin, and how it gives the line of an offset.
use Rattle.std.proofs.Common.{◌≡◌, ℕ, zero, suc, ◌+◌, ◌-◌, ◌≤◌, ◌<◌, Bool, true, false, List, [], ◌∷◌, ◌++◌, length, get_or, refl, sym, ap}
use Rattle.std.proofs.Common.{subst, ◌∙◌, arith, add-one, add-zero, length-append, append-nil, inl, inr}
use Rattle.std.proofs.Math.Nat.{eq-or-lt_of_le}
use Rattle.std.proofs.Common.{append_assoc, cond, drop, if◌then◌else◌, take}
use Rattle.std.specs.List.{flat_map}
use Rattle.std.specs.List.Sorted.{IsNonDecreasingBy}
use Rattle.std.proofs.lemmas.Bool.{cases_Bool}
use Rattle.std.proofs.lemmas.Bool.Decides.{nat_tests}
use Rattle.std.specs.List.{filter}
use Rattle.std.proofs.lemmas.List.{get_or-drop, get_or_append_left, get_or_at, get_or_default, length-drop}
use Rattle.std.proofs.lemmas.List.Filters.{length-filter_more}
use Rattle.std.proofs.lemmas.List.Sorted.{IsNonDecreasingBy-push, IsNonDecreasingBy-short}
use Rattle.memchr.specs.Find.{is_byte2, places, places_from}
use Rattle.al_base.specs.Positions.{begins_char, ends_break, line_at, column_at}
use Rattle.al_base.specs.LineStarts.{starts_to, line_starts}
use Rattle.al_base.proofs.Counting.{line_at-break, line_at-later, line_at-same, line_at-small, column_at-break, column_at-more}

-- `line_at` is monotone.
pub line_at-le : (bytes : List ℕ) (j k : ℕ) → j ≤ k → line_at bytes j ≤ line_at bytes k
line_at-le bytes j k h = subst (λ (m : ℕ). line_at bytes j ≤ line_at bytes m) (omega arith) (line_at-later bytes j (k - j))

-- No break ends between two offsets on the same line.
pub no_break_between : (bytes : List ℕ) (s k o : ℕ) → s ≤ k → k < o → line_at bytes s ≡ line_at bytes o → ends_break bytes k ≡ false
no_break_between bytes s k o a b same =
    elim (cases_Bool (ends_break bytes k)) [
      | inl e ↦
          let h = line_at-break bytes k e in
          let low = line_at-le bytes s k a in
          let high = line_at-le bytes (k + 1) o (omega arith) in
          absurd (omega (arith, h, low, high, same))
      | inr e ↦ e
    ]

both_more : (a b c l m x y : ℕ) → a ≡ b + x → b ≡ c + l → m ≡ l + y → y ≡ x → a ≡ c + m
both_more a b c l m x y more before taken read = omega (arith, more, before, taken, read)

-- the column after n more bytes of a line
column_at-run : (bytes : List ℕ) (s n : ℕ) → s + n ≤ length bytes → line_at bytes s ≡ line_at bytes (s + n)
    → column_at bytes (s + n) ≡ column_at bytes s + length (filter begins_char (take n (drop s bytes)))
column_at-run bytes s zero room same = rw (add-zero s) (sym (add-zero (column_at bytes s)))
column_at-run bytes s (suc n) room same =
    let next : s + suc n ≡ s + n + 1 = omega arith in
    let e : ends_break bytes (s + n) ≡ false = no_break_between bytes s (s + n) (s + suc n) (omega arith) (omega arith) same in
    let before = column_at-run bytes s n (omega (arith, room)) (same ∙ ap (line_at bytes) next ∙ line_at-same bytes (s + n) e) in
    let more = ap (column_at bytes) next ∙ column_at-more bytes (s + n) e in
    let z : n + 1 ≡ suc n = omega arith in
    let taken = ap (λ m. length (filter begins_char (take m (drop s bytes)))) (sym z)
    ∙ length-filter_more begins_char (drop s bytes) n 0 (omega (arith, room, length-drop s bytes)) in
    both_more _ _ _ _ _ _ _ more before taken (ap (λ b. cond b 1 0) (ap begins_char (get_or-drop s bytes n 0)))

pub column_at-between : (bytes : List ℕ) (s o : ℕ) → s ≤ o → o ≤ length bytes → line_at bytes s ≡ line_at bytes o
    → column_at bytes o ≡ column_at bytes s + length (filter begins_char (take (o - s) (drop s bytes)))
column_at-between bytes s o order room same =
    let whole : s + (o - s) ≡ o = omega (arith, order) in
    sym (ap (column_at bytes) whole) ∙ column_at-run bytes s (o - s) (omega (arith, order, room)) (same ∙ ap (line_at bytes) (sym whole))

-- s is the offset at which line i + 1 begins
pub record IsStart (bytes : List ℕ) (i s : ℕ) : Type 0 where
  pub line : line_at bytes s ≡ i + 1
  pub column : column_at bytes s ≡ 1
  pub before : (k : ℕ) → k < s → line_at bytes k ≤ i

starts_to-break : (bytes : List ℕ) (n : ℕ) → ends_break bytes n ≡ true → starts_to bytes (suc n) ≡ starts_to bytes n ++ (n + 1) ∷ []
starts_to-break bytes n e = rw e refl

starts_to-same : (bytes : List ℕ) (n : ℕ) → ends_break bytes n ≡ false → starts_to bytes (suc n) ≡ starts_to bytes n
starts_to-same bytes n e = rw e (append-nil (starts_to bytes n))

-- ---- the line starts, from the offsets of line feeds and carriage returns

abbrev pub start_after_break : List ℕ → ℕ → List ℕ
start_after_break bytes k = if ends_break bytes k then (k + 1) ∷ [] else []

-- the bytes that the search looks for: line feed and carriage return
abbrev pub break_bytes : ℕ → Bool
break_bytes = is_byte2 10 13

place_more : (here ends : Bool) (own before more : List ℕ) (k : ℕ) (f : ℕ → List ℕ) (rest : List ℕ) → f k ≡ (if ends then own else []) → more ≡ flat_map f rest →
    (here ≡ false → ends ≡ false) → (before ++ (if ends then own else [])) ++ more ≡ before ++ flat_map f (if here then k ∷ rest else rest)
place_more true ends own before more k f rest e m h =
    append_assoc before (if ends then own else []) more ∙ ap (λ l. before ++ l) (ap (λ l. l ++ more) (sym e) ∙ ap (λ l. f k ++ l) m)
place_more false ends own before more k f rest e m h =
    append_assoc before (if ends then own else []) more ∙ ap (λ l. before ++ l) (ap (λ b. (if b then own else []) ++ more) (h refl) ∙ m)

starts_from : (bytes : List ℕ) (i n : ℕ) → starts_to bytes (i + n) ≡ starts_to bytes i ++ flat_map (start_after_break bytes) (places_from break_bytes bytes i n)
unfolding places_from
starts_from bytes i zero = ap (starts_to bytes) (add-zero i) ∙ sym (append-nil (starts_to bytes i))
starts_from bytes i (suc n) =
    let x = get_or bytes i 0 in
    let next : i + suc n ≡ suc i + n = omega arith in
    let later : starts_to bytes (suc i + n) ≡ starts_to bytes (suc i) ++ flat_map (start_after_break bytes) (places_from break_bytes bytes (i + 1) n) =
    subst (λ m. starts_to bytes (m + n) ≡ starts_to bytes m ++ flat_map (start_after_break bytes) (places_from break_bytes bytes (i + 1) n)) (add-one i)
    (starts_from bytes (i + 1) n) in
    ap (starts_to bytes) next ∙ later
    ∙ place_more (break_bytes x) (ends_break bytes i) ((i + 1) ∷ []) (starts_to bytes i) _ i (start_after_break bytes) (places_from break_bytes bytes (i + 1) n) refl refl
    (λ e. grind (arith, nat_tests))

-- All line starts, from the offsets of these bytes.
pub starts_by_places : (bytes : List ℕ) → 0 ∷ flat_map (start_after_break bytes) (places break_bytes bytes) ≡ line_starts bytes
starts_by_places bytes =
    let none : length bytes - 0 ≡ length bytes = omega arith in
    let all : 0 + length bytes ≡ length bytes = omega arith in
    ap (λ n. 0 ∷ flat_map (start_after_break bytes) (places_from break_bytes bytes 0 n)) none ∙ sym (starts_from bytes 0 (length bytes)) ∙ ap (starts_to bytes) all

-- one step of the loop: the search found the byte at offset k
module _ (bytes starts : List ℕ) (k : ℕ) (all rest : List ℕ) (is : all ≡ k ∷ rest) where
  after_place : (b : Bool) → ends_break bytes k ≡ b →
      (starts ++ (if b then (k + 1) ∷ [] else [])) ++ flat_map (start_after_break bytes) rest ≡ starts ++ flat_map (start_after_break bytes) all
  after_place b e =
      let more = flat_map (start_after_break bytes) rest in
      append_assoc starts (if b then (k + 1) ∷ [] else []) more ∙ ap (λ a. starts ++ ((if a then (k + 1) ∷ [] else []) ++ more)) (sym e)
      ∙ ap (λ ks. starts ++ flat_map (start_after_break bytes) ks) (sym is)

  pub after_break : ends_break bytes k ≡ true → (starts ++ (k + 1) ∷ []) ++ flat_map (start_after_break bytes) rest ≡ starts ++ flat_map (start_after_break bytes) all
  after_break e = after_place true e

  pub after_no_break : ends_break bytes k ≡ false → starts ++ flat_map (start_after_break bytes) rest ≡ starts ++ flat_map (start_after_break bytes) all
  after_no_break e = ap (λ xs. xs ++ flat_map (start_after_break bytes) rest) (sym (append-nil starts)) ∙ after_place false e

pub starts_to-length : (bytes : List ℕ) (n : ℕ) → length (starts_to bytes n) ≡ line_at bytes n
starts_to-length bytes zero = refl
starts_to-length bytes (suc n) =
    let before = starts_to-length bytes n in
    elim (cases_Bool (ends_break bytes n)) [
      | inl e ↦ rw e (omega (arith, length-append (starts_to bytes n) ((n + 1) ∷ []), before))
      | inr e ↦ rw e (omega (arith, ap length (append-nil (starts_to bytes n)), before))
    ]

-- A line starts directly after a break.
start_after : (bytes : List ℕ) (n : ℕ) → ends_break bytes n ≡ true → IsStart bytes (line_at bytes n) (n + 1)
start_after bytes n e = record {
  line = line_at-break bytes n e;
  column = column_at-break bytes n e;
  before = λ k h. line_at-le bytes k n (omega arith);
}

-- entry i of the list is the start of line i + 1, and is at most n
pub record HasStart (bytes : List ℕ) (n i : ℕ) (starts : List ℕ) : Type 0 where
  pub small : get_or starts i 0 ≤ n
  pub start : IsStart bytes i (get_or starts i 0)

has_start_after : (bytes xs : List ℕ) (n i : ℕ) → ends_break bytes n ≡ true → length xs ≡ line_at bytes n → i < length xs + 1
    → (i < length xs → HasStart bytes n i xs) → HasStart bytes (suc n) i (xs ++ (n + 1) ∷ [])
has_start_after bytes xs n i e len h given =
    let most : i ≤ length xs = omega arith in
    elim (eq-or-lt_of_le most) [
      | inr l ↦
          let first = given l in
          let same : get_or (xs ++ (n + 1) ∷ []) i 0 ≡ get_or xs i 0 = get_or_append_left xs ((n + 1) ∷ []) 0 i l in
          let low = first.small in
          record { small = rw same (omega arith); start = rw same first.start }
      | inl g ↦
          let at : i ≡ line_at bytes n = g ∙ len in
          let same : get_or (xs ++ (n + 1) ∷ []) i 0 ≡ n + 1 = get_or_at xs (n + 1) [] 0 i (omega arith) in
          record { small = rw same (omega arith); start = rw (same, at) (start_after bytes n e) }
    ]

pub start_at : (bytes : List ℕ) (n i : ℕ) → i < length (starts_to bytes n) → HasStart bytes n i (starts_to bytes n)
start_at bytes zero zero h = record { small = omega arith; start = record { line = refl; column = refl; before = λ k l. absurd (omega arith) } }
start_at bytes zero (suc i) h = absurd (omega arith)
start_at bytes (suc n) i h =
    elim (cases_Bool (ends_break bytes n)) [
      | inl e ↦
          let same = starts_to-break bytes n e in
          let few : i < length (starts_to bytes n) + 1 = omega (arith, ap length same, length-append (starts_to bytes n) ((n + 1) ∷ []), h) in
          subst (HasStart bytes (suc n) i) (sym same)
          (has_start_after bytes (starts_to bytes n) n i e (starts_to-length bytes n) few (λ l. start_at bytes n i l))
      | inr e ↦
          let same = starts_to-same bytes n e in
          let few : i < length (starts_to bytes n) = omega (arith, ap length same, h) in
          let first = start_at bytes n i few in
          let low = first.small in
          subst (HasStart bytes (suc n) i) (sym same) (record { small = omega arith; start = first.start })
    ]

-- The line starts are in ascending order.
pub starts_to-rise : (bytes : List ℕ) (n : ℕ) → IsNonDecreasingBy (λ x. x) (starts_to bytes n)
starts_to-rise bytes zero = IsNonDecreasingBy-short (λ x. x) (0 ∷ []) (omega arith)
starts_to-rise bytes (suc n) =
    let first = starts_to-rise bytes n in
    elim (cases_Bool (ends_break bytes n)) [
      | inl e ↦
          subst (IsNonDecreasingBy (λ x. x)) (sym (starts_to-break bytes n e))
          (IsNonDecreasingBy-push (λ x. x) (starts_to bytes n) (n + 1) first (λ d some.
          let last : get_or (starts_to bytes n) (length (starts_to bytes n) - 1) 0 ≤ n = (start_at bytes n (length (starts_to bytes n) - 1) (omega arith)).small in
          subst (λ (m : ℕ). m ≤ n + 1) (get_or_default (starts_to bytes n) (length (starts_to bytes n) - 1) 0 d (omega arith)) (omega arith)))
      | inr e ↦ subst (IsNonDecreasingBy (λ x. x)) (sym (starts_to-same bytes n e)) first
    ]

-- entry i of the table is the start of line i + 1
pub start_of : (bytes : List ℕ) (i : ℕ) → i < length (line_starts bytes) → IsStart bytes i (get_or (line_starts bytes) i 0)
start_of bytes i h = (start_at bytes (length bytes) i h).start

-- At least one line starts at or before an offset.
pub some_start : (bytes : List ℕ) (offset r : ℕ) → ((k : ℕ) → r ≤ k → k < length (line_starts bytes) → offset < get_or (line_starts bytes) k 0) → 0 < r
some_start bytes offset zero above =
    let some : 0 < length (line_starts bytes) = omega (arith, starts_to-length bytes (length bytes)) in
    let after = above 0 (omega arith) some in
    let first = (start_of bytes 0 some).before 0 (omega (arith, after)) in
    absurd (omega (arith, first))
some_start bytes offset (suc r) above = omega arith

-- The last entry at or before an offset is the start of its line.
pub line_at-start : (bytes : List ℕ) (offset i : ℕ) → offset ≤ length bytes → i < length (line_starts bytes) → get_or (line_starts bytes) i 0 ≤ offset
    → (i + 1 < length (line_starts bytes) → offset < get_or (line_starts bytes) (i + 1) 0) → line_at bytes offset ≡ i + 1
line_at-start bytes offset i within few low high =
    let here = start_of bytes i few in
    let least : line_at bytes (get_or (line_starts bytes) i 0) ≤ line_at bytes offset = line_at-le bytes (get_or (line_starts bytes) i 0) offset low in
    let own = here.line in
    let most : i + 1 ≤ length (line_starts bytes) = omega arith in
    elim (eq-or-lt_of_le most) [
      | inr l ↦
          let most = (start_of bytes (i + 1) l).before offset (high l) in
          omega (arith, least, own, most)
      | inl g ↦
          let whole = line_at-le bytes offset (length bytes) within in
          let all = starts_to-length bytes (length bytes) in
          omega (arith, least, own, whole, all, g)
    ]

-- the offset's line number, and the offset at which that line starts
pub record IsLineOf (bytes : List ℕ) (offset line start : ℕ) : Type 0 where
  pub above : 1 ≤ line
  pub small : line ≤ length bytes + 1
  pub is : line_at bytes offset ≡ line
  pub order : start ≤ offset
  pub begins : column_at bytes start ≡ 1
  pub same : line_at bytes start ≡ line_at bytes offset
  pub first : (k : ℕ) → k < start → line_at bytes k < line_at bytes offset

pub line_of : (bytes starts : List ℕ) (offset r : ℕ) → starts ≡ line_starts bytes → offset ≤ length bytes → r ≤ length starts
    → ((k : ℕ) → k < r → get_or starts k 0 ≤ offset)
    → ((k : ℕ) → r ≤ k → k < length starts → offset < get_or starts k 0)
    → IsLineOf bytes offset r (get_or starts (r - 1) 0)
line_of bytes starts offset r made within bound up_to after =
    let above : 1 ≤ r = some_start bytes offset r (subst (λ (s : List ℕ). (k : ℕ) → r ≤ k → k < length s → offset < get_or s k 0) made after) in
    let few : r - 1 < length (line_starts bytes) = omega (arith, above, bound, ap length made) in
    let low : get_or starts (r - 1) 0 ≤ offset = up_to (r - 1) (omega (arith, above)) in
    let again : r - 1 + 1 ≡ r = omega (arith, above) in
    let all = starts_to-length bytes (length bytes) in
    let most = line_at-small bytes (length bytes) in
    let at : line_at bytes offset ≡ r - 1 + 1 =
    line_at-start bytes offset (r - 1) within few (subst (λ (s : List ℕ). get_or s (r - 1) 0 ≤ offset) made low)
    (λ l. subst (λ (s : List ℕ). offset < get_or s (r - 1 + 1) 0) made (after (r - 1 + 1) (omega (arith, again)) (omega (arith, l, ap length made)))) in
    let start = start_of bytes (r - 1) few in
    rw made
    (record {
      above = above;
      small = omega (arith, all, most, bound, ap length made);
      is = at ∙ again;
      order = subst (λ (s : List ℕ). get_or s (r - 1) 0 ≤ offset) made low;
      begins = start.column;
      same = start.line ∙ sym at;
      first = λ k h. let low = start.before k h in omega (arith, low, at);
    })

-- an element read from the code's table
pub start_read : (starts items : List ℕ) (i s : ℕ) → items ≡ starts → i < length starts → s ≡ get_or items i s → s ≡ get_or starts i 0
start_read starts items i s same few read =
    read ∙ ap (λ l. get_or l i s) same ∙ get_or_default starts i s 0 few

pub is_line_of_read : (bytes : List ℕ) (offset line s t : ℕ) → t ≡ s → IsLineOf bytes offset line s → IsLineOf bytes offset line t
is_line_of_read bytes offset line s t same h = subst (IsLineOf bytes offset line) (sym same) h
