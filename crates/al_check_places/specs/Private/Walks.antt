-- What a walk holds, as the definitions name it, and which entries it passes by.
use Rattle.std.specs.Prelude.{List, map, codes, nat_eq, Bool, true, ◌||◌}
use Rattle.std.specs.List.{ends_with}
use Rattle.std.specs.Option.{option_map_or}
use Rattle.al_scalar.specs.Scalar.{Scalar, text_of}
use Rattle.al_yaml_tree.specs.Access.{scalar_in}
use Rattle.al_yaml_tree.specs.Node.{Node}
use Rattle.al_tree.specs.Faults.{has_chunk}
use Rattle.al_tree.specs.Keys.{key_of}
use Rattle.al_check_places.specs.Places.{Place, place_of}
use Rattle.al_check_places.specs.Ways.{WayStep, way_step_view}
use Rattle.al_check_places.specs.declared.walk.Walk as rust

-- the places that it found, and the way to where it is
abbrev pub places_in : rust.Walk → List Place
places_in walk = map place_of walk.found.items

abbrev pub way_in : rust.Walk → List WayStep
way_in walk = map way_step_view walk.way.steps.items

-- All keys of conditions end in `if`. Any other scalar without `${{` has no expression, and what
-- isn't a scalar may have some.
abbrev pub may_have_expression : Scalar × Node → Bool
may_have_expression e =
    option_map_or (λ s. ends_with nat_eq (key_of e) (codes "if") || has_chunk (text_of s))
    (scalar_in e.1) true
