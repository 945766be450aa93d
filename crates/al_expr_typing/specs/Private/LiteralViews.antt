-- The value and the span of a literal, as contracts see them.
use Rattle.std.specs.Prelude.{ℕ, List, string_bytes}
use Rattle.al_base.specs.declared.faults.Span.{Span}
use Rattle.al_expr_typing.specs.declared.literals.Literal.{Literal}

abbrev pub literal_of : Literal → (List ℕ × Span)
literal_of l = (string_bytes l.value, l.span)
