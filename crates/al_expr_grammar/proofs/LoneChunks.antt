-- Texts that are one chunk, by the chunks that they have.
use Rattle.std.proofs.Common.{◌≡◌, ◌≤◌, ℕ, ◌+◌, ◌-◌, List, [], ◌∷◌, ◌++◌, true, length, length-append, length-drop, length-take}
use Rattle.std.proofs.Common.{drop, take, nat_le, arith, refl, subst, Option, Some, None}
use Rattle.std.specs.List.{list_all}
use Rattle.std.specs.Str.{IsUtf8}
use Rattle.std.proofs.lemmas.Bool.{and_from}
use Rattle.std.proofs.lemmas.Bool.Decides.{nat_tests}
use Rattle.std.proofs.lemmas.Str.{is_utf8-from_IsUtf8}
use Rattle.al_base.specs.declared.faults.Fault.{Fault}
use Rattle.al_base.specs.declared.faults.Span.{Span}
use Rattle.al_expr_grammar.specs.Chunks.{Chunked, before_opening, chunks_of, chunks_within, closing_position, with_content, with_opening}
use Rattle.al_expr_grammar.proofs.Chunking.{closing_fits, opening_fits}
use Rattle.al_expr_grammar.specs.Lone.{is_lone, is_lone_chunk, is_short, may_stand}
use Rattle.al_expr_grammar.specs.declared.lone.Around.{Around}
use Rattle.al_expr_grammar.specs.declared.lone.Around.TheVariants.{Nothing}

-- ---- texts that may have chunks

small : (n : ℕ) → n ≤ 4194304 → nat_le n 4194304 ≡ true
small n h = grind (arith, nat_tests)

pub short : (text : List ℕ) → IsUtf8 text → length text ≤ 4194304 → is_short text ≡ true
short text u h = and_from _ _ (is_utf8-from_IsUtf8 text u) (small (length text) h)

pub lone_if_short : (around : Around) (text : List ℕ) → IsUtf8 text → length text ≤ 4194304
    → is_lone around text (chunks_of text).chunks (chunks_of text).fault ≡ is_lone_chunk around text
lone_if_short around text u h = rw (short text u h) refl

-- ---- a text that is one chunk alone has its content between `${{` and `}}`

abbrev IsBetween : ℕ → List Span → Type 0
IsBetween size [] = Unit {0}
IsBetween size (s ∷ ss) = (3 ≤ s.start) × (s.end + 2 ≤ size)

closed : (size start : ℕ) (bs : List ℕ) (o : Option ℕ) (rest : ℕ → List ℕ → Chunked) → 3 ≤ start → start + length bs ≤ size
    → closing_position bs ≡ o → IsBetween size (with_content rest start bs o).chunks
closed size start bs None rest low room e = tt
closed size start bs (Some len) rest low room e = let fits = closing_fits bs len e in (low, omega (arith, fits, room))

opened : (bs : List ℕ) (o : Option ℕ) (rest : ℕ → List ℕ → Chunked) → before_opening bs ≡ o → IsBetween (length bs) (with_opening rest 0 bs o).chunks
opened bs None rest e = tt
opened bs (Some n) rest e =
    let fits = opening_fits bs n e in
    let room : 0 + n + 3 + length (drop (n + 3) bs) ≤ length bs = omega (arith, fits, length-drop (n + 3) bs) in
    closed (length bs) (0 + n + 3) (drop (n + 3) bs) (closing_position (drop (n + 3) bs)) rest (omega arith) room refl

between : (text : List ℕ) → IsBetween (length text) (chunks_of text).chunks
between [] = tt
between (b ∷ bs) = opened (b ∷ bs) (before_opening (b ∷ bs)) (chunks_within (length bs)) refl

none_outside : (bs : List ℕ) → list_all (may_stand Nothing) bs ≡ true → length bs ≡ 0
none_outside [] e = refl
none_outside (b ∷ bs) e = absurd cc

pub lone_content : (text : List ℕ) (s : Span) (f : Option Fault) → (chunks_of text).chunks ≡ s ∷ [] → is_lone Nothing text (s ∷ []) f ≡ true
    → (s.start ≡ 3) × (s.end ≡ length text - 2)
lone_content text s (Some f) e lone = absurd cc
lone_content text s None e lone =
    let inside : (3 ≤ s.start) × (s.end + 2 ≤ length text) = subst (IsBetween (length text)) e (between text) in
    let none = none_outside (take (s.start - 3) text ++ drop (s.end + 2) text) lone in
    let parts = length-append (take (s.start - 3) text) (drop (s.end + 2) text) in
    let front = length-take (s.start - 3) text in
    let back = length-drop (s.end + 2) text in
    (omega (arith, inside, none, parts, front, back), omega (arith, inside, none, parts, front, back))
