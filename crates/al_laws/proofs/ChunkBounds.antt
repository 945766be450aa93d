-- The chunks of a text with two bounds that suffice are the same: each takes at least one byte.
use Rattle.std.proofs.Common.{◌≡◌, ℕ, zero, suc, ◌+◌, ◌≤◌, List, [], ◌∷◌, length, drop, refl, sym, ap, ◌∙◌, arith, length-drop}
use Rattle.std.proofs.Common.{Option, Some, None}
use Rattle.al_base.specs.Spans.{span}
use Rattle.al_expr_grammar.specs.Chunks.{before_opening, chunks_of, chunks_within, closing_position, no_chunks, then_chunk, with_content}
use Rattle.al_expr_grammar.specs.Chunks.{with_opening}

none-left : (n at : ℕ) → chunks_within n at [] ≡ no_chunks None
none-left zero at = refl
none-left (suc n) at = refl

-- the chunks of as many bytes as both bounds allow
abbrev AgreeBelow : ℕ → ℕ → Type 0
AgreeBelow n m = (at : ℕ) (bs : List ℕ) → length bs ≤ n → length bs ≤ m → chunks_within n at bs ≡ chunks_within m at bs

module _ (n m : ℕ) (later : AgreeBelow n m) where
  content-agrees : (start : ℕ) (bs : List ℕ) (o : Option ℕ) → length bs ≤ n → length bs ≤ m
      → with_content (chunks_within n) start bs o ≡ with_content (chunks_within m) start bs o
  content-agrees start bs None h k = refl
  content-agrees start bs (Some len) h k =
      let rest = length-drop (len + 2) bs in
      ap (then_chunk (span start (start + len)))
      (later (start + len + 2) (drop (len + 2) bs) (omega (arith, rest, h)) (omega (arith, rest, k)))

  opening-agrees : (at : ℕ) (bs : List ℕ) (o : Option ℕ) → length bs ≤ suc n → length bs ≤ suc m
      → with_opening (chunks_within n) at bs o ≡ with_opening (chunks_within m) at bs o
  opening-agrees at bs None h k = refl
  opening-agrees at bs (Some before) h k =
      let rest = length-drop (before + 3) bs in
      content-agrees (at + before + 3) (drop (before + 3) bs) (closing_position (drop (before + 3) bs)) (omega (arith, rest, h))
      (omega (arith, rest, k))

chunks-agree : (n m : ℕ) → AgreeBelow n m
chunks-agree n m at [] h k = none-left n at ∙ sym (none-left m at)
chunks-agree zero m at (b ∷ bs) h k = absurd (omega (arith, h))
chunks-agree (suc n) zero at (b ∷ bs) h k = absurd (omega (arith, k))
chunks-agree (suc n) (suc m) at (b ∷ bs) h k =
    opening-agrees n m (λ from rest i j. chunks-agree n m from rest i j) at (b ∷ bs) (before_opening (b ∷ bs)) h k

pub any-chunks : (bound : ℕ) (text : List ℕ) → length text ≤ bound → chunks_within bound 0 text ≡ chunks_of text
any-chunks bound text h = chunks-agree bound (length text) 0 text h (omega arith)
