-- Chunks and faults lie in the text or content that they were found in.
use Rattle.std.specs.Prelude.{ℕ, List, length}
use Rattle.std.specs.List.{AllByRecursion}
use Rattle.std.specs.Option.{option_to_list}
use Rattle.al_base.specs.Spans.{LiesIn}
use Rattle.al_base.specs.declared.faults.Fault.{Fault}
use Rattle.al_base.specs.declared.faults.Span.{Span}
use Rattle.al_expr_grammar.specs.Chunks.{chunks_of}
use Rattle.al_expr_grammar.specs.Extents.{extent}
use Rattle.al_expr_grammar.specs.Refusal.{Spells, fault_of_content, fault_of_lexed}
use Rattle.al_expr_grammar.specs.Tokens.{tokens_of}
use Rattle.al_expr_grammar.specs.Tree.{Tree}

-- each of these faults lies in a text with this many bytes
abbrev pub AllLie : ℕ → List Fault → Type 0
AllLie size faults = AllByRecursion (λ (f : Fault). LiesIn size f.span) faults

-- the content of each chunk of a text
abbrev pub ChunksLie : Type 0
ChunksLie = (text : List ℕ)
    → AllByRecursion (λ (s : Span). LiesIn (length text) s) (chunks_of text).chunks

-- the fault at a text's end
abbrev pub EndFaultLies : Type 0
EndFaultLies = (text : List ℕ) → AllLie (length text) (option_to_list (chunks_of text).fault)

-- the fault of a content's tokens
abbrev pub TokenFaultLies : Type 0
TokenFaultLies = (content : List ℕ)
    → AllLie (length content) (option_to_list (fault_of_lexed content (tokens_of content)))

-- the fault of a content
abbrev pub ContentFaultLies : Type 0
ContentFaultLies =
    (content : List ℕ) → AllLie (length content) (option_to_list (fault_of_content content))

-- an expression itself
abbrev pub ExtentLies : Type 0
ExtentLies = (content : List ℕ) (t : Tree) → Spells content t → LiesIn (length content) (extent t)
