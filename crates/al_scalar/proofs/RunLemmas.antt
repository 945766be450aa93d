-- The offsets that runs give, and the cells of a text.
use Rattle.std.proofs.Common.{◌≡◌, ℕ, zero, suc, ◌+◌, ◌-◌, ◌^◌, ◌<◌, ◌≤◌, List, [], ◌∷◌, ◌++◌, length, length-append, get_or, refl, sym, ap, subst}
use Rattle.std.proofs.Common.{◌∙◌, arith, leb, leb-true, Bool, true, false, cond, map, take, drop, drop-cons, slice_range, slice_index}
use Rattle.std.proofs.lemmas.Grind.{common_steps}
use Rattle.std.proofs.lemmas.Bool.Decides.{nat_tests}
use Rattle.std.proofs.lemmas.List.Elements.{All-cons, All-nil, All-push}
use Rattle.std.proofs.lemmas.List.Sorted.{IsNonDecreasingBy-push, IsNonDecreasingBy-short}
use Rattle.std.specs.List.Sorted.{IsPartitionPoint}
use Rattle.al_base.proofs.Elements.{each_both}
use Rattle.al_scalar.specs.Line.{Cell}
use Rattle.al_scalar.specs.LineEnds.{cells_at, cells_between}
use Rattle.al_scalar.specs.Private.Segments.{first_run, offset_in, offset_after, offset_from, offset_at, cells_from, AreUpTo, IsOrdered, GoesOn, AreInRange, run_cells}
use Rattle.al_scalar.specs.declared.texts.Segment.{Segment}

pub after-after : (found : ℕ) (s : Segment) (i : ℕ) → s.index ≤ i → offset_after found s i ≡ offset_in s i
after-after found s i h = grind (arith, common_steps, h)

after-before : (found : ℕ) (s : Segment) (i : ℕ) → i < s.index → offset_after found s i ≡ found
after-before found s i h = grind (arith, common_steps, h)

offset_from-more : (found : ℕ) (ss : List Segment) (s : Segment) (i : ℕ) → offset_from found (ss ++ s ∷ []) i ≡ offset_after (offset_from found ss i) s i
offset_from-more found [] s i = refl
offset_from-more found (t ∷ ts) s i = offset_from-more (offset_after found t i) ts s i

-- The run with number n gives the offset at index i, if the runs up to it begin at or before i, and those after it begin after i.
none-begun : (found i : ℕ) (ss : List Segment) (d : Segment) → ((k : ℕ) → k < length ss → i < (get_or ss k d).index) → offset_from found ss i ≡ found
none-begun found i [] d h = refl
none-begun found i (s ∷ ss) d h =
    ap (λ o. offset_from o ss i) (after-before found s i (h 0 (omega arith))) ∙ none-begun found i ss d (λ k l. h (suc k) (omega (arith, l)))

run-found : (found i n : ℕ) (ss : List Segment) (d : Segment) → n < length ss → ((k : ℕ) → k ≤ n → (get_or ss k d).index ≤ i)
    → ((k : ℕ) → n < k → k < length ss → i < (get_or ss k d).index) → offset_in (get_or ss n d) i ≡ offset_from found ss i
run-found found i n [] d l b a = absurd (omega (arith, l))
run-found found i zero (s ∷ ss) d l b a =
    sym (none-begun (offset_after found s i) i ss d (λ k h. a (suc k) (omega arith) (omega (arith, h))) ∙ after-after found s i (b 0 (omega arith)))
run-found found i (suc n) (s ∷ ss) d l b a =
    run-found (offset_after found s i) i n ss d (omega (arith, l)) (λ k h. b (suc k) (omega (arith, h))) (λ k h m. a (suc k) (omega (arith, h)) (omega (arith, m)))

-- the run that a search of the runs after the first one finds
module _ (at i n : ℕ) (ss : List Segment) (point : IsPartitionPoint (λ (s : Segment). leb s.index i ≡ true) (λ (s : Segment). leb s.index i ≡ false) ss n) where
  up-to : (d : Segment) (k : ℕ) → k ≤ n → (get_or (first_run at ∷ ss) k d).index ≤ i
  up-to d zero h = omega arith
  up-to d (suc k) h = leb-true _ _ (point.0 k d (omega arith) h)

  after : (d : Segment) (k : ℕ) → n < k → k < suc (length ss) → i < (get_or (first_run at ∷ ss) k d).index
  after d zero h l = absurd (omega (arith, h))
  after d (suc k) h l = let no = point.1 k d (omega (arith, h)) (omega (arith, l)) in grind (arith, nat_tests, no)

  pub searched : (view : List Segment) (s : Segment) → first_run at ∷ ss ≡ view → n ≤ length ss → s ≡ get_or view n s
      → record { up_to : s.index ≤ i; offset : offset_in s i ≡ offset_at view i }
  searched view s v l e =
      let is : s ≡ get_or (first_run at ∷ ss) n s = e ∙ ap (λ runs. get_or runs n s) (sym v) in
      record {
        up_to = subst (λ (t : Segment). t.index ≤ i) (sym is) (up-to s n (omega arith));
        offset = ap (λ t. offset_in t i) is ∙ run-found 0 i n (first_run at ∷ ss) s (omega (arith, l)) (up-to s) (after s) ∙ ap (λ runs. offset_at runs i) v;
      }

-- ---- the order of runs

AreUpTo-up : (n m : ℕ) (ss : List Segment) → AreUpTo n ss → n ≤ m → AreUpTo m ss
AreUpTo-up n m ss h k = λ i d l. let low = h i d l in omega (arith, low, k)

-- the first run alone
pub IsOrdered-first : (at n : ℕ) (ss : List Segment) → length ss ≡ 0 → IsOrdered n (first_run at ∷ ss)
IsOrdered-first at n [] z =
    (All-cons (λ (t : Segment). t.index ≤ n) (first_run at) [] (omega arith) (All-nil _), IsNonDecreasingBy-short (λ (t : Segment). t.index) (first_run at ∷ []) (omega arith))
IsOrdered-first at n (s ∷ ss) z = absurd (omega (arith, z))

-- appending a run
pub IsOrdered-more : (n : ℕ) (ss : List Segment) (s : Segment) → IsOrdered n ss → s.index ≡ n → IsOrdered n (ss ++ s ∷ [])
IsOrdered-more n ss s h e = (
  All-push (λ (t : Segment). t.index ≤ n) ss s h.0 (omega (arith, e)),
  IsNonDecreasingBy-push (λ (t : Segment). t.index) ss s h.1 (λ d z. let low = h.0 (length ss - 1) d (omega (arith, z)) in omega (arith, e, low)),
)

-- ---- whether an offset continues the last run

moving : (last : Segment) (n at k : ℕ) → last.index ≤ n → last.moves ≡ true → last.offset ≤ at → at - last.offset ≡ n - last.index → offset_in last (n + k) ≡ at + k
moving last n at k b m o e =
    let sum : last.offset + ((n + k) - last.index) ≡ at + k = omega (arith, b, o, e) in
    ap (λ x. cond x (last.offset + ((n + k) - last.index)) last.offset) m ∙ sum

pub goes-on : (last : Segment) (n at m : ℕ) (ss : List Segment) → AreUpTo n ss → length ss ≡ suc m → last ≡ get_or ss m last
    → last.moves ≡ true → last.offset ≤ at → at - last.offset ≡ n - last.index → GoesOn ss n at true
goes-on last n at m ss h l e v o f = λ k.
    let up : AreUpTo (n + k) ss = AreUpTo-up n (n + k) ss h (omega arith) in
    let low : last.index ≤ n = subst (λ (s : Segment). s.index ≤ n) (sym e) (h m last (omega (arith, l))) in
    sym (ap (λ s. offset_in s (n + k)) e
    ∙ run-found 0 (n + k) m ss last (omega (arith, l)) (λ j b. up j last (omega (arith, l, b))) (λ j b d. absurd (omega (arith, l, b, d))))
    ∙ moving last n at k low v o f

-- before the first byte, with the first run alone
pub first-goes-on : (ss : List Segment) (at : ℕ) → length ss ≡ 0 → GoesOn (first_run at ∷ ss) 0 at true
first-goes-on [] at z = λ k. let sum : at + ((0 + k) - 0) ≡ at + k = omega arith in after-after 0 (first_run at) (0 + k) (omega arith) ∙ sum
first-goes-on (s ∷ ss) at z = absurd (omega (arith, z))

-- a run that begins with the next byte
pub next-run : (ss new : List Segment) (n at : ℕ) (moves : Bool) → new ≡ ss ++ record { index = n; offset = at; moves = moves } ∷ [] → GoesOn new n at moves
next-run ss new n at moves g = λ k.
    let s : Segment = record { index = n; offset = at; moves = moves } in
    let sum : at + ((n + k) - n) ≡ at + k = omega arith in
    ap (λ xs. offset_at xs (n + k)) g ∙ offset_from-more 0 ss s (n + k) ∙ after-after (offset_at ss (n + k)) s (n + k) (omega arith)
    ∙ ap (λ o. cond moves o at) sum

-- ---- cells

-- Appending a run after the bytes doesn't change their cells.
pub cells_from-run : (k : ℕ) (bs : List ℕ) (ss : List Segment) (s : Segment) → k + length bs ≤ s.index → cells_from k bs (ss ++ s ∷ []) ≡ cells_from k bs ss
cells_from-run k [] ss s h = refl
cells_from-run k (b ∷ bs) ss s h =
    ap (λ o. (b, o) ∷ cells_from (suc k) bs (ss ++ s ∷ [])) (offset_from-more 0 ss s k ∙ after-before (offset_at ss k) s k (omega arith))
    ∙ ap (λ cs. (b, offset_at ss k) ∷ cs) (cells_from-run (suc k) bs ss s (omega arith))

cells_from-two : (k : ℕ) (bs ds : List ℕ) (ss : List Segment) → cells_from k (bs ++ ds) ss ≡ cells_from k bs ss ++ cells_from (k + length bs) ds ss
cells_from-two k [] ds ss = let e : k ≡ k + 0 = omega arith in ap (λ j. cells_from j ds ss) e
cells_from-two k (b ∷ bs) ds ss =
    let e : suc k + length bs ≡ k + suc (length bs) = omega arith in
    ap (λ cs. (b, offset_at ss k) ∷ cs) (cells_from-two (suc k) bs ds ss ∙ ap (λ j. cells_from (suc k) bs ss ++ cells_from j ds ss) e)

cells-run : (ss : List Segment) (n at : ℕ) (moves : Bool) (k : ℕ) (ds : List ℕ) → GoesOn ss n at moves → cells_from (n + k) ds ss ≡ run_cells at moves k ds
cells-run ss n at moves k [] g = refl
cells-run ss n at moves k (d ∷ ds) g =
    let index : suc (n + k) ≡ n + suc k = omega arith in
    ap (λ o. (d, o) ∷ cells_from (suc (n + k)) ds ss) (g k)
    ∙ ap (λ cs. (d, cond moves (at + k) at) ∷ cs) (ap (λ j. cells_from j ds ss) index ∙ cells-run ss n at moves (suc k) ds g)

pub new-run : (ss : List Segment) (n at : ℕ) (moves : Bool) (ds : List ℕ) → GoesOn ss n at moves → cells_from n ds ss ≡ run_cells at moves 0 ds
new-run ss n at moves ds g = let index : n ≡ n + 0 = omega arith in ap (λ j. cells_from j ds ss) index ∙ cells-run ss n at moves 0 ds g

file-run : (file : List ℕ) (from k m : ℕ) → from + k + m ≤ length file → run_cells from true k (take m (drop (from + k) file)) ≡ cells_at file (from + k) m
file-run file from k zero h = refl
file-run file from k (suc m) h =
    let next : suc (from + k) ≡ from + suc k = omega arith in
    let b = slice_index file (from + k) in
    ap (λ xs. run_cells from true k (take (suc m) xs)) (drop-cons file (from + k) 0 (omega (arith, h)))
    ∙ ap (λ cs. (b, from + k) ∷ cs)
    (ap (λ j. run_cells from true (suc k) (take m (drop j file))) next ∙ file-run file from (suc k) m (omega (arith, h)) ∙ ap (λ j. cells_at file j m) (sym next))

-- the cells of a part of the file
pub run-between : (file : List ℕ) (from to : ℕ) → from ≤ to → to ≤ length file → run_cells from true 0 (slice_range file from to) ≡ cells_between file from to
run-between file from to h l =
    let e : from + 0 ≡ from = omega arith in
    ap (λ j. run_cells from true 0 (take (to - from) (drop j file))) (sym e) ∙ file-run file from 0 (to - from) (omega (arith, h, l)) ∙ ap (λ j. cells_at file j (to - from)) e

-- the cells of an escape
pub escape-run : (at k : ℕ) (ds : List ℕ) → run_cells at false k ds ≡ map (λ b. (b, at)) ds
escape-run at k [] = refl
escape-run at k (d ∷ ds) = ap (λ cs. (d, at) ∷ cs) (escape-run at (suc k) ds)

-- ---- after bytes are appended

AreInRange-at : (file : List ℕ) (i n : ℕ) → i + n < 2 ^ 32 → AreInRange (cells_at file i n)
AreInRange-at file i zero h = tt
AreInRange-at file i (suc n) h = (omega (arith, h), AreInRange-at file (suc i) n (omega (arith, h)))

pub AreInRange-between : (file : List ℕ) (i j : ℕ) → i ≤ j → j < 2 ^ 32 → AreInRange (cells_between file i j)
AreInRange-between file i j o h = AreInRange-at file i (j - i) (omega (arith, o, h))

pub AreInRange-escape : (ds : List ℕ) (at : ℕ) → at < 2 ^ 32 → AreInRange (map (λ b. (b, at)) ds)
AreInRange-escape [] at h = tt
AreInRange-escape (d ∷ ds) at h = (h, AreInRange-escape ds at h)

module _ (old : List Cell) (bs ds new : List ℕ) (ss ss' : List Segment) (n at : ℕ) (moves : Bool) (e : n ≡ length bs) (f : new ≡ bs ++ ds) (g : cells_from 0 bs ss ≡ old)
    (h : (xs : List ℕ) → length xs ≡ n → cells_from 0 xs ss' ≡ cells_from 0 xs ss) (next : GoesOn ss' n at moves) where
  pub pushed-text : cells_from 0 new ss' ≡ old ++ run_cells at moves 0 ds
  pushed-text =
      let i : 0 + length bs ≡ n = omega (arith, e) in
      ap (λ xs. cells_from 0 xs ss') f ∙ cells_from-two 0 bs ds ss'
      ∙ ap (λ cs. cs ++ cells_from (0 + length bs) ds ss') (h bs (sym e) ∙ g)
      ∙ ap (λ j. old ++ cells_from j ds ss') i ∙ ap (λ cs. old ++ cs) (new-run ss' n at moves ds next)

  pub pushed-kept : AreInRange (cells_from 0 bs ss) → AreInRange (run_cells at moves 0 ds) → IsOrdered n ss' → IsOrdered (length new) ss' × AreInRange (cells_from 0 new ss')
  pushed-kept p q b =
      let long : n ≤ length new = omega (arith, e, ap length f, length-append bs ds) in
      ((AreUpTo-up n (length new) ss' b.0 long, b.1), subst AreInRange (sym pushed-text) (each_both (λ (c : Cell). c.1 < 2 ^ 32) old (run_cells at moves 0 ds) (subst AreInRange g p) q))
