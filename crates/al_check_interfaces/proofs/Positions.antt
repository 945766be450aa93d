-- The positions of inputs and secrets by their names, and whether a name is declared.
use Rattle.std.proofs.Common.{◌≡◌, ℕ, ◌+◌, ◌<◌, List, [], ◌∷◌, Bool, true, false, ◌||◌, Option, Some, None, map, length, get_or, option_map, is_some, refl, ap, sym, ◌∙◌}
use Rattle.std.specs.Prelude.{find, if◌then◌else◌}
use Rattle.al_base.specs.Names.{same_name}
use Rattle.al_base.specs.NamePlaces.{first_at, name_place}
use Rattle.al_base.proofs.NamePlaces.{find_first, found_nowhere, found_within}
use Rattle.al_tree.specs.Declarations.{named_among}
use Rattle.al_check_interfaces.specs.Parameters.{is_parameter}
use Rattle.al_check_interfaces.specs.declared.interfaces.Parameter.{Parameter}

place_step : (here : Bool) (o : Option ℕ) (more : Bool) → is_some o ≡ more → is_some (if here then Some 0 else option_map (λ i. i + 1) o) ≡ (here || more)
place_step true o more h = refl
place_step false None more h = h
place_step false (Some i) more h = h

-- a name has a position in a list of names if and only if it is in the list
pub has_place : (ns : List (List ℕ)) (name : List ℕ) → is_some (name_place ns name) ≡ named_among ns name
has_place [] name = refl
has_place (n ∷ ns) name = place_step (same_name n name) (name_place ns name) (named_among ns name) (has_place ns name)

abbrev names_of : List Parameter → List (List ℕ)
names_of = map (λ p. p.name)

place_of : (ps : List Parameter) (name : List ℕ) → name_place (names_of ps) name ≡ first_at (is_parameter name) ps
place_of [] name = refl
place_of (p ∷ ps) name = ap (λ o. if same_name p.name name then Some 0 else option_map (λ i. i + 1) o) (place_of ps name)

module _ (ps : List Parameter) (positions : List ℕ → Option ℕ) (name : List ℕ) (are : positions ≡ name_place (names_of ps)) where
  -- the position of a name is within the list of parameters
  pub position_within : (i : ℕ) → Some i ≡ positions name → i < length ps
  position_within i e = found_within (λ (p : Parameter). p.name) (λ n. same_name n name) ps i (sym (e ∙ ap (λ f. f name) are))

  pub named_at : (i : ℕ) (d : Parameter) → Some i ≡ positions name → Some (get_or ps i d) ≡ find (is_parameter name) ps
  named_at i d e =
      ap (option_map (λ j. get_or ps j d)) (e ∙ ap (λ f. f name) are ∙ place_of ps name) ∙ sym (find_first (is_parameter name) ps d)

  pub not_named : None ≡ positions name → None ≡ find (is_parameter name) ps
  not_named e = found_nowhere (is_parameter name) ps (sym (e ∙ ap (λ f. f name) are ∙ place_of ps name))

  -- a name has a position if and only if a parameter has it
  pub is_named : is_some (positions name) ≡ named_among (names_of ps) name
  is_named = ap (λ f. is_some (f name)) are ∙ has_place (names_of ps) name
