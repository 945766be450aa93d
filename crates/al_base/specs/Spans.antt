-- Spans of a text.
use Rattle.std.specs.Prelude.{ℕ, ◌≤◌}
use Rattle.al_base.specs.declared.faults.Span.{Span}

abbrev pub span : ℕ → ℕ → Span
span start end = record { start = start; end = end }

-- a span of a text of this many bytes
pub record LiesIn (size : ℕ) (span : Span) : Type 0 where
  pub ordered : span.start ≤ span.end
  pub inside : span.end ≤ size
