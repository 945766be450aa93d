-- The openings and closings of chunks, and reading one chunk after another.
use Rattle.std.proofs.Common.{◌≡◌, ◌≤◌, ◌<◌, ◌-◌, ℕ, zero, suc, ◌+◌, List, [], ◌∷◌, ◌++◌, length, drop, take, get_or, refl, sym, ap, ◌∙◌, arith}
use Rattle.std.proofs.Common.{append-nil, append_assoc, Bool, true, false, cond, ◌&&◌, not, subst, length-append, length-drop, drop-drop, Option, Some, None}
use Rattle.std.proofs.lemmas.Bool.{and_parts}
use Rattle.std.proofs.lemmas.Bool.Decides.{nat_tests}
use Rattle.std.proofs.lemmas.List.{at_drop_more, get_or-drop, take_more}
use Rattle.std.proofs.lemmas.Str.{IsCharBoundary-after_ascii, IsCharBoundary-before_ascii}
use Rattle.std.proofs.lemmas.List.Sums.{sum_by-cons}
use Rattle.std.specs.List.{count_by, range_with_len}
use Rattle.std.specs.Prelude.{◌%◌, ◌==◌, find, option_map}
use Rattle.std.specs.Str.{IsUtf8, IsCharBoundary}
use Rattle.al_base.specs.declared.faults.Fault.{Fault}
use Rattle.al_base.specs.declared.faults.Span.{Span}
use Rattle.al_base.specs.Spans.{span}
use Rattle.al_expr_grammar.specs.Tokens.{add_to, is_quote}
use Rattle.al_expr_grammar.specs.Chunks.{Chunked, before_opening, chunks_of, chunks_within, closes, closing_position, is_outside_quotes, no_chunks, open_fault, opens, then_chunk}
use Rattle.al_expr_grammar.specs.Chunks.{with_content, with_opening}

-- ---- openings

one_further : (i : ℕ) (o : Option ℕ) → add_to i (option_map suc o) ≡ add_to (i + 1) o
one_further i None = refl
one_further i (Some n) = ap Some (omega arith)

pub opening_later : (bs : List ℕ) (i : ℕ) → i < length bs → opens (drop i bs) ≡ false
    → add_to i (before_opening (drop i bs)) ≡ add_to (i + 1) (before_opening (drop (i + 1) bs))
opening_later bs i h e =
    let there = at_drop_more (λ l. l) bs i 0 h in
    let here : opens (get_or bs i 0 ∷ drop (i + 1) bs) ≡ false = ap opens (sym there) ∙ e in
    ap (λ l. add_to i (before_opening l)) there
    ∙ ap (λ t. add_to i (cond t (Some 0) (option_map suc (before_opening (drop (i + 1) bs))))) here ∙ one_further i (before_opening (drop (i + 1) bs))

first_at : (P : ℕ → Type 0) (t : Bool) (o : Option ℕ) (n : ℕ) → cond t (Some 0) (option_map suc o) ≡ Some n → (t ≡ true → P 0)
    → ((m : ℕ) → o ≡ Some m → P (suc m)) → P n
first_at P true o n e f g = let z : 0 ≡ n = cc in subst P z (f refl)
first_at P false (Some m) n e f g = let z : suc m ≡ n = cc in subst P z (g m refl)
first_at P false None n e f g = absurd cc

pub opens_there : (bs : List ℕ) (n : ℕ) → before_opening bs ≡ Some n → opens (drop n bs) ≡ true
opens_there [] n e = absurd cc
opens_there (b ∷ bs) n e = first_at (λ m. opens (drop m (b ∷ bs)) ≡ true) (opens (b ∷ bs)) (before_opening bs) n e (λ h. h) (λ m f. opens_there bs m f)

three : (bs : List ℕ) → opens bs ≡ true → (3 ≤ length bs) × (get_or bs 2 0 < 128)
three [] h = absurd cc
three (a ∷ []) h = absurd (grind (arith, nat_tests))
three (a ∷ b ∷ []) h = absurd (grind (arith, nat_tests))
three (a ∷ b ∷ c ∷ bs) h = (omega arith, grind (arith, nat_tests))

pub opens_within : (bs : List ℕ) (n : ℕ) → opens (drop n bs) ≡ true → n + 3 ≤ length bs
opens_within bs n h = let t = (three (drop n bs) h).0 in omega (arith, t, length-drop n bs)

pub opening_fits : (bs : List ℕ) (n : ℕ) → before_opening bs ≡ Some n → n + 3 ≤ length bs
opening_fits bs n e = opens_within bs n (opens_there bs n e)

-- The opening ends at a character boundary.
pub opening_ends : (bs : List ℕ) (at n : ℕ) → IsUtf8 bs → before_opening (drop at bs) ≡ Some n → IsCharBoundary bs (at + n + 3)
opening_ends bs at n u e =
    let t = three (drop n (drop at bs)) (opens_there (drop at bs) n e) in
    let low : get_or bs (at + (n + 2)) 0 < 128 = rw (get_or-drop, get_or-drop) at t.1 in
    let there : at + (n + 2) + 1 ≡ at + n + 3 = omega arith in
    let fits = opening_fits (drop at bs) n e in
    subst (IsCharBoundary bs) there (IsCharBoundary-after_ascii bs (at + (n + 2)) u (omega (arith, fits, length-drop at bs)) low)

-- ---- closings

-- the content ends after n bytes
abbrev pub closes_at : List ℕ → ℕ → Bool
closes_at bs n = is_outside_quotes (take n bs) && closes (drop n bs)

pub closing_later : (bs : List ℕ) (i : ℕ) → i < length bs → closes_at bs i ≡ false
    → find (closes_at bs) (range_with_len i (length bs - i)) ≡ find (closes_at bs) (range_with_len (i + 1) (length bs - (i + 1)))
closing_later bs i h e =
    let more : length bs - i ≡ suc (length bs - (i + 1)) = omega (arith, h) in
    ap (λ n. find (closes_at bs) (range_with_len i n)) more ∙ ap (λ t. cond t (Some i) (find (closes_at bs) (range_with_len (i + 1) (length bs - (i + 1))))) e

turned : (s t x y : Bool) → x ≡ cond t (not y) y → cond s (not x) x ≡ cond t (not (cond s (not y) y)) (cond s (not y) y)
turned s t x y e = grind (arith, nat_tests)

quotes_more : (front : List ℕ) (b : ℕ) → is_outside_quotes (front ++ b ∷ []) ≡ cond (is_quote b) (not (is_outside_quotes front)) (is_outside_quotes front)
quotes_more [] b = refl
quotes_more (c ∷ front) b = turned (is_quote c) (is_quote b) (is_outside_quotes (front ++ b ∷ [])) (is_outside_quotes front) (quotes_more front b)

pub quotes_next : (bs : List ℕ) (i : ℕ) → i < length bs
    → is_outside_quotes (take (i + 1) bs) ≡ cond (is_quote (get_or bs i 0)) (not (is_outside_quotes (take i bs))) (is_outside_quotes (take i bs))
quotes_next bs i h = ap is_outside_quotes (take_more bs i 0 h) ∙ quotes_more (take i bs) (get_or bs i 0)

parity : (q t : Bool) (n : ℕ) → t ≡ (n % 2 == 0) → cond q (not t) t ≡ ((cond q 1 0 + n) % 2 == 0)
parity true t n e = grind (arith, nat_tests)
parity false t n e = grind (arith, nat_tests)

pub even_quotes : (bs : List ℕ) → is_outside_quotes bs ≡ (count_by is_quote bs % 2 == 0)
even_quotes [] = refl
even_quotes (b ∷ bs) =
    rw (sum_by-cons (λ x. cond (is_quote x) 1 0) b bs) (parity (is_quote b) (is_outside_quotes bs) (count_by is_quote bs) (even_quotes bs))

found_at : (p : ℕ → Bool) (xs : List ℕ) (x n : ℕ) (t : Bool) → p x ≡ t → cond t (Some x) (find p xs) ≡ Some n → (find p xs ≡ Some n → p n ≡ true) → p n ≡ true
found_at p xs x n true h e f = let z : x ≡ n = cc in subst (λ m. p m ≡ true) z h
found_at p xs x n false h e f = f e

found : (p : ℕ → Bool) (xs : List ℕ) (n : ℕ) → find p xs ≡ Some n → p n ≡ true
found p [] n e = absurd cc
found p (x ∷ xs) n e = found_at p xs x n (p x) refl e (found p xs n)

closes_there : (bs : List ℕ) (n : ℕ) → closing_position bs ≡ Some n → closes (drop n bs) ≡ true
closes_there bs n e = (and_parts (is_outside_quotes (take n bs)) _ (found (closes_at bs) (range_with_len 0 (length bs)) n e)).1

two : (bs : List ℕ) → closes bs ≡ true → (2 ≤ length bs) × (get_or bs 0 0 < 128)
two [] h = absurd cc
two (a ∷ []) h = absurd (grind (arith, nat_tests))
two (a ∷ b ∷ bs) h = (omega arith, grind (arith, nat_tests))

pub closes_within : (bs : List ℕ) (n : ℕ) → closes_at bs n ≡ true → n + 2 ≤ length bs
closes_within bs n h = let t = (two (drop n bs) (and_parts (is_outside_quotes (take n bs)) _ h).1).0 in omega (arith, t, length-drop n bs)

pub closing_fits : (bs : List ℕ) (n : ℕ) → closing_position bs ≡ Some n → n + 2 ≤ length bs
closing_fits bs n e = closes_within bs n (found (closes_at bs) (range_with_len 0 (length bs)) n e)

-- The closing begins at a character boundary.
pub closing_begins : (bs : List ℕ) (at n : ℕ) → closing_position (drop at bs) ≡ Some n → IsCharBoundary bs (at + n)
closing_begins bs at n e =
    let t = two (drop n (drop at bs)) (closes_there (drop at bs) n e) in
    let there : at + (n + 0) ≡ at + n = omega arith in
    let low : get_or bs (at + n) 0 < 128 = rw (get_or-drop, get_or-drop, there) at t.1 in
    let fits = closing_fits (drop at bs) n e in
    IsCharBoundary-before_ascii bs (at + n) (omega (arith, fits, length-drop at bs)) low

-- ---- the loop over chunks

-- prepends the chunks that were read
abbrev pub after_chunks : List Span → Chunked → Chunked
after_chunks front c = record { chunks = front ++ c.chunks; fault = c.fault }

pub after_one : (front : List Span) (s : Span) (c : Chunked) → after_chunks front (then_chunk s c) ≡ after_chunks (front ++ s ∷ []) c
after_one front s c = ap (λ l. record { chunks = l; fault = c.fault }) (sym (append_assoc front (s ∷ []) c.chunks))

-- the chunks `front` were read, up to offset `at`
abbrev pub AreRead : List ℕ → List Span → ℕ → Type 0
AreRead text front at = chunks_of text ≡ after_chunks front (chunks_within (length text - length front) at (drop at text))

-- these are all chunks, and this is the fault at the text's end
abbrev pub AreAll : List ℕ → List Span → Option Fault → Type 0
AreAll text front f = (front ≡ (chunks_of text).chunks) × (f ≡ (chunks_of text).fault)

module _ (text : List ℕ) (front : List Span) (at : ℕ) (so_far : AreRead text front at) where
  all : (f : Option Fault) → chunks_within (length text - length front) at (drop at text) ≡ no_chunks f → AreAll text front f
  all f e =
      let d = so_far ∙ ap (after_chunks front) e in
      (sym (ap (λ c. c.chunks) d ∙ append-nil front), sym (ap (λ c. c.fault) d))

  none_opens : (n : ℕ) → None ≡ before_opening (drop at text) → chunks_within n at (drop at text) ≡ no_chunks None
  none_opens zero e = refl
  none_opens (suc n) e = ap (with_opening (chunks_within n) at (drop at text)) (sym e)

  pub none_left : None ≡ before_opening (drop at text) → AreAll text front None
  none_left e = all None (none_opens (length text - length front) e)

  module _ (before : ℕ) (few : length front ≤ at) (opening : Some before ≡ before_opening (drop at text)) where
    abbrev start : ℕ
    start = at + before + 3

    abbrev content : List ℕ
    content = drop start text

    opened : chunks_within (length text - length front) at (drop at text)
        ≡ with_content (chunks_within (length text - (length front + 1))) start content (closing_position content)
    opened =
        let fits = opening_fits (drop at text) before (sym opening) in
        let more : length text - length front ≡ suc (length text - (length front + 1)) = omega (arith, fits, few, length-drop at text) in
        let there : at + (before + 3) ≡ at + before + 3 = omega arith in
        let rest = chunks_within (length text - (length front + 1)) in
        ap (λ k. chunks_within k at (drop at text)) more ∙ ap (with_opening rest at (drop at text)) (sym opening)
        ∙ ap (λ bs. with_content rest start bs (closing_position bs)) (drop-drop (before + 3) at text ∙ ap (λ k. drop k text) there)

    pub cut_off : None ≡ closing_position content → AreAll text front (open_fault start content)
    cut_off e = all (open_fault start content) (opened ∙ ap (with_content (chunks_within (length text - (length front + 1))) start content) (sym e))

    pub one_more : (len : ℕ) → Some len ≡ closing_position content → AreRead text (front ++ span start (start + len) ∷ []) (start + len + 2)
    one_more len e =
        let there : start + (len + 2) ≡ start + len + 2 = omega arith in
        let one = length-append front (span start (start + len) ∷ []) in
        let rest = chunks_within (length text - (length front + 1)) in
        rw one
        (so_far ∙ ap (after_chunks front) (opened ∙ ap (with_content rest start content) (sym e)
        ∙ ap (λ bs. then_chunk (span start (start + len)) (rest (start + len + 2) bs)) (drop-drop (len + 2) start text ∙ ap (λ k. drop k text) there))
        ∙ after_one front (span start (start + len)) _)
