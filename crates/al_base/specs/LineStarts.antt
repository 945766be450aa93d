-- The offsets at which a file's lines begin, in order (YAML 1.2.2, 5.4).
use Rattle.std.specs.Prelude.{ℕ, zero, suc, ◌+◌, List, [], ◌∷◌, ◌++◌, length, if◌then◌else◌}
use Rattle.al_base.specs.Positions.{ends_break}

-- those that are at most n: 0, and each offset right after a break
abbrev pub starts_to : List ℕ → ℕ → List ℕ
starts_to bytes zero = 0 ∷ []
starts_to bytes (suc n) = starts_to bytes n ++ (if ends_break bytes n then (n + 1) ∷ [] else [])

abbrev pub line_starts : List ℕ → List ℕ
line_starts bytes = starts_to bytes (length bytes)
