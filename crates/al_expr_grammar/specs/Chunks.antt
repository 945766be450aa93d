-- The chunks of a text, `${{ .. }}` (GitHub, "Evaluate expressions in workflows and actions").
--
-- A text splits into the bytes before its first `${{`, that opening, a content, the closing `}}`
-- and the rest, whose chunks follow. The closing is the first `}}` outside quotes: the content
-- before it has an even number of single quotes. So at most one split is right, and the chunks are
-- unique.
use Rattle.std.specs.Prelude.{◌≡◌, ℕ, zero, suc, ◌+◌, ◌-◌, List, [], ◌∷◌, Bool, true, ◌&&◌, not}
use Rattle.std.specs.Prelude.{if◌then◌else◌, length}
use Rattle.std.specs.Prelude.{codes, drop, find, nat_eq, slice_range, take, Option, Some, None}
use Rattle.std.specs.Prelude.{option_map}
use Rattle.std.specs.List.{range_with_len, starts_with}
use Rattle.al_base.specs.declared.codes.ExpressionCode.TheVariants as code
use Rattle.al_base.specs.declared.faults.Fault.{Fault}
use Rattle.al_base.specs.declared.faults.Span.{Span}
use Rattle.al_expr_grammar.specs.declared.chunk.Chunk.{Chunk}
use Rattle.al_expr_grammar.specs.Tokens.{add_to, is_quote, last_quote}
use Rattle.al_base.specs.Spans.{span}
use Rattle.al_expr_grammar.specs.Refusal.{expression_fault, open_text}

-- where the contents of the chunks are, and the fault at the text's end
pub record Chunked : Type 0 where
  pub chunks : List Span
  pub fault : Option Fault

-- `${{`
abbrev pub opens : List ℕ → Bool
opens bs = starts_with nat_eq bs (codes "${{")

-- `}}`
abbrev pub closes : List ℕ → Bool
closes bs = starts_with nat_eq bs (codes "}}")

-- No quote is open after these bytes of a content: they have an even number of quotes.
abbrev pub is_outside_quotes : List ℕ → Bool
is_outside_quotes [] = true
is_outside_quotes (b ∷ bs) = let more = is_outside_quotes bs in if is_quote b
    then not more else more

-- the number of bytes before the first `${{`
abbrev pub before_opening : List ℕ → Option ℕ
before_opening [] = None
before_opening (b ∷ bs) = let later = option_map suc (before_opening bs) in if opens (b ∷ bs)
    then Some 0 else later

-- the number of bytes of a content before the first `}}` outside quotes
abbrev pub closing_position : List ℕ → Option ℕ
closing_position bs =
    find (λ n. is_outside_quotes (take n bs) && closes (drop n bs)) (range_with_len 0 (length bs))

abbrev pub no_chunks : Option Fault → Chunked
no_chunks f = record { chunks = []; fault = f }

abbrev pub then_chunk : Span → Chunked → Chunked
then_chunk s c = record { chunks = s ∷ c.chunks; fault = c.fault }

-- The fault of a content that starts here and isn't closed before the text ends: X2 at the last
-- quote if a quote is open, otherwise X20 at its opening.
abbrev pub open_fault : ℕ → List ℕ → Option Fault
open_fault start content =
    if is_outside_quotes content
    then Some (expression_fault code.UnclosedChunk (span (start - 3) start) [])
    else open_text (add_to start (last_quote content))

-- the content from an offset on, up to its closing, and the chunks of the rest
abbrev pub with_content : (ℕ → List ℕ → Chunked) → ℕ → List ℕ → Option ℕ → Chunked
with_content rest start bs None = no_chunks (open_fault start bs)
with_content rest start bs (Some len) =
    then_chunk (span start (start + len)) (rest (start + len + 2) (drop (len + 2) bs))

-- the content after an opening
abbrev pub with_opening : (ℕ → List ℕ → Chunked) → ℕ → List ℕ → Option ℕ → Chunked
with_opening rest at bs None = no_chunks None
with_opening rest at bs (Some before) =
    with_content rest (at + before + 3) (drop (before + 3) bs)
    (closing_position (drop (before + 3) bs))

-- the chunks of a text whose first byte is at this offset, at most this many
abbrev pub chunks_within : ℕ → ℕ → List ℕ → Chunked
chunks_within zero at bs = no_chunks None
chunks_within (suc n) at bs = with_opening (chunks_within n) at bs (before_opening bs)

abbrev pub chunks_of : List ℕ → Chunked
chunks_of text = chunks_within (length text) 0 text

abbrev pub span_of_chunk : Chunk → Span
span_of_chunk c = c.span

-- The content of a chunk is the bytes of the text from its start to its end.
abbrev pub IsCutFrom : List ℕ → Chunk → Type 0
IsCutFrom text c = c.content.now ≡ slice_range text c.span.start c.span.end
