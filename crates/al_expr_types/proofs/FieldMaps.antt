-- The fields of a map: appending a field, and their types in a longer table.
use Rattle.std.proofs.Common.{◌≡◌, ℕ, ◌+◌, List, [], ◌∷◌, ◌++◌, map, length, refl, sym, ap, ◌∙◌, false, true, Some, option_map, arith}
use Rattle.std.proofs.lemmas.List.{length-map, map-append}
use Rattle.std.specs.Prelude.{if◌then◌else◌, is_none, is_some, not, zip}
use Rattle.al_base.specs.Growth.{BeginsWith}
use Rattle.al_base.specs.NamePlaces.{name_place}
use Rattle.al_base.specs.Names.{same_name}
use Rattle.al_types.specs.Indexes.{name_at}
use Rattle.al_types.specs.Puts.{put_new}
use Rattle.al_types.specs.Types.{Parts, Type'}
use Rattle.al_types.proofs.Puts.{put_new_after, put_new_old}
use Rattle.al_expr_types.specs.FieldMaps.{fields_in, is_map_below}
use Rattle.al_expr_types.specs.Names.{names_in}
use Rattle.al_expr_types.specs.Tables.{objects_of}
use Rattle.al_expr_types.specs.Types.{named_types, type_in}
use Rattle.al_expr_types.specs.declared.fields.FieldMap.{FieldMap}
use Rattle.al_expr_types.specs.declared.ty.Ty.{Ty}
use Rattle.al_expr_types.specs.declared.types.Types.{Types}
use Rattle.al_expr_types.proofs.Below.{types_same}
use Rattle.al_expr_types.proofs.Keeping.{has_old}

place_at : (ns : List (List ℕ)) (ts : List Type') (n : List ℕ) → length ns ≡ length ts → name_at (zip ns ts) n ≡ name_place ns n
place_at [] ts n e = refl
place_at (m ∷ ns) [] n e = absurd (omega (arith, e))
place_at (m ∷ ns) (t ∷ ts) n e = ap (λ o. if same_name m n then Some 0 else option_map (λ i. i + 1) o) (place_at ns ts n (omega (arith, e)))

pub zip_after : (ns : List (List ℕ)) (ts : List Type') (n : List ℕ) (t : Type') → length ns ≡ length ts →
    zip (ns ++ n ∷ []) (ts ++ t ∷ []) ≡ zip ns ts ++ (n, t) ∷ []
zip_after [] [] n t e = refl
zip_after [] (u ∷ ts) n t e = absurd (omega (arith, e))
zip_after (m ∷ ns) [] n t e = absurd (omega (arith, e))
zip_after (m ∷ ns) (u ∷ ts) n t e = ap (λ ps. (m, u) ∷ ps) (zip_after ns ts n t (omega (arith, e)))

as_long : (ms : List Parts) (ns : List (List ℕ)) (ts : List Ty) → length ns ≡ length ts → length ns ≡ length (map (type_in ms) ts)
as_long ms ns ts e = e ∙ sym (length-map ts (type_in ms))

-- a field with a new name is appended
pub new_field : (ms : List Parts) (ns : List (List ℕ)) (ts : List Ty) (n : List ℕ) (t : Ty) → length ns ≡ length ts → false ≡ is_some (name_place ns n) →
    named_types ms (ns ++ n ∷ []) (ts ++ t ∷ []) ≡ put_new (named_types ms ns ts) (n, type_in ms t)
new_field ms ns ts n t e new =
    let us = map (type_in ms) ts in
    let long = as_long ms ns ts e in
    ap (zip (ns ++ n ∷ [])) (map-append (type_in ms) ts (t ∷ [])) ∙ zip_after ns us n (type_in ms t) long
    ∙ sym (put_new_after (zip ns us) (n, type_in ms t) (ap is_none (place_at ns us n long) ∙ ap not (sym new)))

-- a field whose name is there already changes nothing
pub old_field : (ms : List Parts) (ns : List (List ℕ)) (ts : List Ty) (n : List ℕ) (t : Ty) → length ns ≡ length ts → true ≡ is_some (name_place ns n) →
    named_types ms ns ts ≡ put_new (named_types ms ns ts) (n, type_in ms t)
old_field ms ns ts n t e old =
    let us = map (type_in ms) ts in
    sym (put_new_old (zip ns us) (n, type_in ms t) (ap is_none (place_at ns us n (as_long ms ns ts e)) ∙ ap not (sym old)))

-- the fields have the same types in a longer table
pub fields_stay : (new old : Types) (m : FieldMap) → BeginsWith (objects_of new) (objects_of old) → is_map_below (length old.objects.items) m ≡ true →
    fields_in (objects_of new) m ≡ fields_in (objects_of old) m
fields_stay new old m b h =
    ap (zip (names_in m.names)) (types_same _ _ (length old.objects.items) (length new.objects.items) (has_old new.objects.items old.objects.items b) m.types.items h).1
