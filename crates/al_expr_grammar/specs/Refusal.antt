-- The fault of a content that isn't an expression.
use Rattle.std.specs.Prelude.{◌≡◌, ℕ, ◌+◌, ◌-◌, List, [], ◌∷◌, nat_lt, if◌then◌else◌, length, drop}
use Rattle.std.specs.Prelude.{Option, Some, None, option_map}
use Rattle.al_base.specs.declared.codes.Code.TheVariants.{Expression}
use Rattle.al_base.specs.declared.codes.ExpressionCode as codes
use Rattle.al_base.specs.declared.codes.ExpressionCode.TheVariants as code
use Rattle.al_base.specs.declared.faults.Fault.{Fault}
use Rattle.al_base.specs.declared.faults.Span.{Span}
use Rattle.al_base.specs.Limits.{longest_expression}
use Rattle.al_expr_grammar.specs.Lexeme.{Lexeme, lexeme, kinds}
use Rattle.al_expr_grammar.specs.Tokens.{Lexed, AllRead, Bad, Unclosed, tokens_of, last_quote}
use Rattle.al_base.specs.Spans.{span}
use Rattle.al_expr_grammar.specs.Tree.{Tree}
use Rattle.al_expr_grammar.specs.Grammar.{IsTreeOf}
use Rattle.al_expr_grammar.specs.Table.{Verdict, Fine, Early, Unexpected, TooDeep, verdict_of}

-- a fault of an expression: its code, its span and its arguments
abbrev pub expression_fault : codes.ExpressionCode → Span → List (List ℕ) → Fault
expression_fault x s args = record { span = s; code = Expression x; args = args }

-- the fault at the first of these tokens
abbrev pub fault_at : (Span → List ℕ → Fault) → List Lexeme → Option Fault
fault_at make [] = None
fault_at make (lexeme k b s ∷ ts) = Some (make s b)

-- the fault that the table finds, with its span, in a content with this many bytes
abbrev pub fault_of_verdict : ℕ → List Lexeme → Verdict → Option Fault
fault_of_verdict len ts Fine = None
fault_of_verdict len ts Early = Some (expression_fault code.EndsEarly (span len len) [])
fault_of_verdict len ts (Unexpected left) =
    fault_at (λ s b. expression_fault code.UnexpectedToken s (b ∷ [])) (drop (length ts - left) ts)
fault_of_verdict len ts (TooDeep left) =
    fault_at (λ s b. expression_fault code.TooDeep s []) (drop (length ts - left) ts)

abbrev pub open_text : Option ℕ → Option Fault
open_text = option_map (λ quote. expression_fault code.UnclosedText (span quote (quote + 1)) [])

-- X1 or X2, if not all tokens are read
abbrev pub fault_of_lexed : List ℕ → Lexed → Option Fault
fault_of_lexed content (Bad s) = Some (expression_fault code.BadCharacter s [])
fault_of_lexed content Unclosed = open_text (last_quote content)
fault_of_lexed content (AllRead ts) = None

abbrev pub fault_of_tokens : List ℕ → Lexed → Option Fault
fault_of_tokens content (AllRead ts) = fault_of_verdict (length content) ts (verdict_of (kinds ts))
fault_of_tokens content other = fault_of_lexed content other

-- X5, otherwise X1 or X2, otherwise X3 or X6, otherwise X4
abbrev pub fault_of_content : List ℕ → Option Fault
fault_of_content content =
    if nat_lt longest_expression (length content)
    then Some (expression_fault code.TooLong (span 0 1) [])
    else fault_of_tokens content (tokens_of content)

-- an expression of this tree
pub record Spells (content : List ℕ) (t : Tree) : Type 0 where
  pub tokens : List Lexeme
  pub reads : tokens_of content ≡ AllRead tokens
  pub derives : IsTreeOf t tokens
