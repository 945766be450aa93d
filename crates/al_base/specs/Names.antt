-- Membership of texts in lists, and comparison of names that ignores ASCII case.
use Rattle.std.specs.Prelude.{ℕ, List, Bool, map}
use Rattle.std.specs.Char.{to_ascii_lowercase}
use Rattle.std.specs.List.{list_any}
use Rattle.std.specs.Str.{bytes_eq}

-- whether a text is one of these
abbrev pub among : List (List ℕ) → List ℕ → Bool
among texts text = list_any (bytes_eq text) texts

-- a text in lower case
abbrev pub lower_case : List ℕ → List ℕ
lower_case = map to_ascii_lowercase

-- equality of names or texts, ignoring ASCII case
abbrev pub same_name : List ℕ → List ℕ → Bool
same_name a b = bytes_eq (lower_case a) (lower_case b)
