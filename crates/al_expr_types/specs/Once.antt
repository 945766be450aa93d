-- Names that are all different.
use Rattle.std.specs.Prelude.{ℕ, List, Bool}
use Rattle.al_types.specs.FusedFields.{are_distinct}
use Rattle.al_types.specs.Strings.{strings}

abbrev pub are_once : List (List ℕ) → Bool
are_once ns = are_distinct (strings ns)
