-- The bounds on the tokens of a content, on the chunks of a text and on the pieces of a format
-- text,
-- as laws.
use Rattle.std.specs.Prelude.{◌≡◌, ◌≤◌, ℕ, List, length, false, replicate}
use Rattle.al_expr_grammar.specs.Chunks.{chunks_of, chunks_within}
use Rattle.al_expr_grammar.specs.Tokens.{tokens_of, tokens_within}
use Rattle.al_expr_typing.specs.Placeholders.{used_arguments, used_within}

-- With any bound from the content's length on, a content has the same tokens, or the same fault.
abbrev pub BoundReadsTokens : Type 0
BoundReadsTokens =
    (bound : ℕ) (content : List ℕ) → length content ≤ bound → tokens_within bound 0 content
    ≡ tokens_of content

-- With any bound from the text's length on, a text has the same chunks, and the same fault at its
-- end.
abbrev pub BoundFindsChunks : Type 0
BoundFindsChunks =
    (bound : ℕ) (text : List ℕ) → length text ≤ bound → chunks_within bound 0 text ≡ chunks_of text

-- With any bound from the text's length on, a format text uses the same arguments, or is wrong.
abbrev pub BoundFindsPlaceholders : Type 0
BoundFindsPlaceholders = (bound count : ℕ) (text : List ℕ) → length text ≤ bound
    → used_within bound (replicate count false) text ≡ used_arguments count text
