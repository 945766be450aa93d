-- How a list grows, and when two lists are equal as sets.
use Rattle.std.specs.Prelude.{◌≡◌, List, ◌++◌, ◌↔◌, Contains}

-- new begins with old
pub record BeginsWith {X : Type 0} (new old : List X) : Type 0 where
  pub more : List X
  pub is : new ≡ old ++ more

-- the two lists are equal as sets: order and repetitions don't matter
abbrev pub SameSet : {X : Type 0} → List X → List X → Type 0
SameSet {X} xs ys = (x : X) → Contains xs x ↔ Contains ys x
