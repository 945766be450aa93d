-- Lists of output names, stored once for each caller and text, and their positions.
use Rattle.std.specs.Prelude.{◌≡◌, ◌++◌, ℕ, List, Bool, Option, Some, map, option_and_then}
use Rattle.std.specs.Prelude.{slice_get}
use Rattle.std.specs.BTreeMap.{get_by}
use Rattle.std.specs.Cmp.Lexicographic.{slice_cmp}
use Rattle.std.specs.Ordering.{bool_cmp, nat_cmp, ordering_then}
use Rattle.al_check_calls.specs.declared.known.Lists.{Lists}

-- the names by whether a step calls, and by the text of its `uses`
abbrev pub Naming : Type 0
Naming = Bool → List ℕ → Option (List (List ℕ))

abbrev pub lists_of : Lists → List (List (List ℕ))
lists_of ls = map (λ l. l.now) ls.lists.items

-- the stored position for a caller and a text, if there is one
unfoldable pub position_of : Lists → Bool → List ℕ → Option ℕ
position_of ls of_step text =
    get_by (λ k. ordering_then (bool_cmp of_step k.0) (slice_cmp nat_cmp text k.1.now)) ls.positions

-- the names at a position, whatever lists are appended
abbrev pub StandsAt : List (List (List ℕ)) → Option ℕ → Option (List (List ℕ)) → Type 0
StandsAt lists position names =
    (more : List (List (List ℕ))) → option_and_then (slice_get (lists ++ more)) position ≡ names

-- each stored position has the names that the naming gives
pub record ArePlaced (naming : Naming) (ls : Lists) : Type 0 where
  pub at : (of_step : Bool) (text : List ℕ) (position : ℕ) → position_of ls of_step text
      ≡ Some position
      → StandsAt (lists_of ls) (Some position) (naming of_step text)

-- The names for a caller and a text are at this position: a list is appended unless they are stored
-- already. Stored positions stay right for each naming that gives these names.
pub record Takes (old new : Lists) (of_step : Bool) (text : List ℕ) (names : Option (List (List ℕ)))
    (position : Option ℕ) : Type 0 where
  pub added : List (List (List ℕ))
  pub grown : lists_of new ≡ lists_of old ++ added
  pub placed : (naming : Naming) → naming of_step text ≡ names → ArePlaced naming old
      → ArePlaced naming new
  pub stands : (naming : Naming) → naming of_step text ≡ names → ArePlaced naming old
      → StandsAt (lists_of new) position names
