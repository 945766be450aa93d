-- The positions of names in fields.
use Rattle.std.specs.Prelude.{ℕ, List, Bool, Option}
use Rattle.al_base.specs.Names.{same_name}
use Rattle.al_base.specs.NamePlaces.{first_at}
use Rattle.al_types.specs.Puts.{TypedName}

abbrev pub named_as : List ℕ → TypedName → Bool
named_as n p = same_name p.0 n

-- the position of the first field with a name
abbrev pub name_at : List TypedName → List ℕ → Option ℕ
name_at ts n = first_at (named_as n) ts
