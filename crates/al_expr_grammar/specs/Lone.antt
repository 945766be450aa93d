-- Texts that are one expression.
use Rattle.std.specs.Prelude.{ℕ, List, [], ◌∷◌, ◌++◌, Bool, false, ◌&&◌, ◌+◌, ◌-◌, nat_le, length}
use Rattle.std.specs.Prelude.{take, drop, Option, None}
use Rattle.std.specs.List.{list_all}
use Rattle.std.specs.Str.{is_utf8}
use Rattle.al_base.specs.declared.faults.Fault.{Fault}
use Rattle.al_base.specs.declared.faults.Span.{Span}
use Rattle.al_base.specs.Limits.{longest_text}
use Rattle.al_expr_grammar.specs.Chunks.{chunks_of}
use Rattle.al_expr_grammar.specs.Tokens.{is_blank_byte}
use Rattle.al_expr_grammar.specs.declared.lone.Around.{Around}
use Rattle.al_expr_grammar.specs.declared.lone.Around.TheVariants.{Blanks, Nothing}

-- what is allowed outside the braces: nothing, or blanks and breaks
abbrev pub may_stand : Around → ℕ → Bool
may_stand Nothing b = false
may_stand Blanks b = is_blank_byte b

abbrev pub is_lone : Around → List ℕ → List Span → Option Fault → Bool
is_lone around text (s ∷ []) None =
    list_all (may_stand around) (take (s.start - 3) text ++ drop (s.end + 2) text)
is_lone around text _ _ = false

-- A text that may have chunks: UTF-8 with at most 4,194,304 bytes, as each text of a file is.
abbrev pub is_short : List ℕ → Bool
is_short text = is_utf8 text && nat_le (length text) longest_text

-- the text is one chunk, with only what is allowed outside it
abbrev pub is_lone_chunk : Around → List ℕ → Bool
is_lone_chunk around text =
    is_short text && is_lone around text (chunks_of text).chunks (chunks_of text).fault
