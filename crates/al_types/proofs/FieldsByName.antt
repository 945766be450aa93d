-- The types of fields by their names.
use Rattle.std.proofs.Common.{◌≡◌, ◌+◌, ℕ, List, [], ◌∷◌, map, arith, refl, sym, ap, ◌∙◌, Bool, true, false, Option, Some, None, option_map}
use Rattle.std.proofs.lemmas.Grind.{common_steps}
use Rattle.std.proofs.lemmas.Option.{slice_get-map}
use Rattle.std.specs.Prelude.{if◌then◌else◌, option_and_then, slice_get, zip}
use Rattle.al_base.specs.Names.{same_name}
use Rattle.al_base.specs.NamePlaces.{name_place}
use Rattle.al_types.specs.Types.{Type', field_at}

found_step : (b : Bool) (t : Type') (ts : List Type') (found : Option Type') (place : Option ℕ) →
    found ≡ option_and_then (λ i. slice_get ts i) place →
    (if b then Some t else found) ≡ option_and_then (λ i. slice_get (t ∷ ts) i) (if b then Some 0 else option_map (λ i. i + 1) place)
found_step true t ts found place e = refl
found_step false t ts found None e = e
found_step false t ts found (Some i) e = e ∙ grind (arith, common_steps)

abbrev no_types : List Type'
no_types = []

none_left : (o : Option ℕ) → None ≡ option_and_then (λ i. slice_get no_types i) o
none_left None = refl
none_left (Some i) = refl

-- The type of a name is the one at the name's position.
pub found_by_name : (ns : List (List ℕ)) (ts : List Type') (n : List ℕ) →
    field_at n (zip ns ts) ≡ option_and_then (λ i. slice_get ts i) (name_place ns n)
found_by_name [] ts n = refl
found_by_name (m ∷ ns) [] n = none_left (name_place (m ∷ ns) n)
found_by_name (m ∷ ns) (t ∷ ts) n = found_step (same_name m n) t ts _ (name_place ns n) (found_by_name ns ts n)

-- the same for the items that the types are of
pub found_there : {X : Type 0} (g : X → Type') (ns : List (List ℕ)) (xs : List X) (n : List ℕ) (i : ℕ) → name_place ns n ≡ Some i →
    option_map g (slice_get xs i) ≡ field_at n (zip ns (map g xs))
found_there g ns xs n i e =
    sym (found_by_name ns (map g xs) n ∙ ap (option_and_then (λ k. slice_get (map g xs) k)) e ∙ slice_get-map g xs i)

pub found_nowhere : (ns : List (List ℕ)) (ts : List Type') (n : List ℕ) → name_place ns n ≡ None → None ≡ field_at n (zip ns ts)
found_nowhere ns ts n e = sym (found_by_name ns ts n ∙ ap (option_and_then (λ k. slice_get ts k)) e)
