-- The character at an offset, in UTF-8 (YAML 1.2.2, 5.1 and 5.2).
use Rattle.std.specs.Prelude.{ℕ, ◌+◌, List, [], ◌∷◌, drop, not}
use Rattle.std.specs.List.{prefix_len}
use Rattle.al_base.specs.Positions.{begins_char}
use Rattle.al_base.specs.declared.faults.Span.{Span}

-- how many bytes the first character has; 0 at the file's end
abbrev pub character_length : List ℕ → ℕ
character_length [] = 0
character_length (b ∷ bs) = 1 + prefix_len (λ byte. not (begins_char byte)) bs

abbrev pub character_at : List ℕ → ℕ → Span
character_at bytes at = record { start = at; end = at + character_length (drop at bytes) }
