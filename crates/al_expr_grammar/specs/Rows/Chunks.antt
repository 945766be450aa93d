-- Terms for rows of chunks.
use Rattle.std.specs.Prelude.{ℕ, List, map, Some, None}
use Rattle.al_base.specs.declared.codes.ExpressionCode.{ExpressionCode}
use Rattle.al_base.specs.declared.faults.Span.{Span}
use Rattle.al_expr_grammar.specs.Chunks.{Chunked}
use Rattle.al_expr_grammar.specs.Refusal.{expression_fault}
use Rattle.al_base.specs.Spans.{span}
use Rattle.std.specs.Prelude.{[]}

abbrev pub span_of : ℕ × ℕ → Span
span_of p = span p.0 p.1

-- the spans of contents, and no fault at the end
abbrev pub closed : List (ℕ × ℕ) → Chunked
closed places = record { chunks = map span_of places; fault = None }

-- the same with a fault that has this span
abbrev pub cut_off : List (ℕ × ℕ) → ExpressionCode → ℕ × ℕ → Chunked
cut_off places code place =
    record { chunks = map span_of places; fault = Some (expression_fault code (span_of place) []) }
