-- The index of an object: looking up a name in fields that were made from joins.
use Rattle.std.proofs.Common.{◌≡◌, ◌∙◌, ℕ, List, [], ◌∷◌, map, get_or, zero, suc, Option, Some, None, refl, ap}
use Rattle.std.proofs.Math.ListN.{get_or-map}
use Rattle.std.specs.Prelude.{option_and_then, slice_get}
use Rattle.al_base.specs.NamePlaces.{name_place}
use Rattle.al_types.specs.Types.{Type', Absent, Present, Parts, field_at, optional}
use Rattle.al_types.proofs.FieldsByName.{found_by_name}
use Rattle.al_expr_types.specs.Joining.{join_in}
use Rattle.al_expr_types.specs.Merging.{slot_in}
use Rattle.al_expr_types.specs.Types.{named_types, type_in}
use Rattle.al_expr_types.specs.declared.joining.Join.{Join}
use Rattle.al_expr_types.specs.declared.joining.Join.TheVariants as joined
use Rattle.al_expr_types.specs.declared.ty.Ty.{Ty}

present_at : (us : List Type') (k : ℕ) → optional (slice_get us k) ≡ get_or (map Present us) k Absent
present_at [] k = refl
present_at (u ∷ us) zero = refl
present_at (u ∷ us) (suc k) = present_at us k

at_place : (ms : List Parts) (us : List Type') (js : List Join) (o : Option ℕ) → map Present us ≡ map (join_in ms) js →
    optional (option_and_then (λ k. slice_get us k) o) ≡ slot_in ms js o
at_place ms us js None e = refl
at_place ms us js (Some k) e = present_at us k ∙ ap (λ l. get_or l k Absent) e ∙ get_or-map (join_in ms) js k joined.Nothing

mapped_twice : (g : Ty → Type') (ts : List Ty) → map Present (map g ts) ≡ map (λ t. Present (g t)) ts
mapped_twice g [] = refl
mapped_twice g (t ∷ ts) = ap (λ l. Present (g t) ∷ l) (mapped_twice g ts)

-- looking up a name among fields whose types are those of the joins
pub index_named : (ms now : List Parts) (ns : List (List ℕ)) (js : List Join) (ts : List Ty) → map (λ t. Present (type_in now t)) ts ≡ map (join_in ms) js →
    (n : List ℕ) → optional (field_at n (named_types now ns ts)) ≡ slot_in ms js (name_place ns n)
index_named ms now ns js ts e n =
    ap optional (found_by_name ns (map (type_in now) ts) n) ∙ at_place ms (map (type_in now) ts) js (name_place ns n) (mapped_twice (type_in now) ts ∙ e)
