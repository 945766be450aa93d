-- Whether there is a type.
use Rattle.std.specs.Prelude.{Bool, true, false}
use Rattle.al_types.specs.Types.{Optional, Absent, Present}

abbrev pub is_present : Optional → Bool
is_present Absent = false
is_present (Present t) = true
