-- Object types whose fields are strings.
use Rattle.std.specs.Prelude.{ℕ, List, map}
use Rattle.al_types.specs.Types.{Type', String, Absent, object_with}

abbrev pub strings : List (List ℕ) → List (List ℕ × Type')
strings = map (λ k. (k, String))

abbrev pub named_strings : List (List ℕ) → Type'
named_strings ns = object_with (strings ns) Absent
