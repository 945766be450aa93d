-- Sorting by a comparison, without repetitions.
use Rattle.std.specs.Prelude.{List, [], ◌∷◌}
use Rattle.std.specs.Ordering.{match_ordering}
use Rattle.std.specs.declared.cmp.Ordering.{Ordering}

module _ {X : Type 0} (cmp : X → X → Ordering) where
  -- sorted values with x in its place, unless it is there already
  abbrev pub with_one : X → List X → List X
  with_one x [] = x ∷ []
  with_one x (y ∷ ys) = match_ordering (cmp x y) (x ∷ y ∷ ys) (y ∷ ys) (y ∷ with_one x ys)

  -- these values sorted, each once
  abbrev pub in_order : List X → List X
  in_order [] = []
  in_order (x ∷ xs) = with_one x (in_order xs)
