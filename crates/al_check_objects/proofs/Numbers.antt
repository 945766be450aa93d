-- The types of scalars; the meaning of a type and of a list of fields in a longer table, and the length of such a list.
use Rattle.std.proofs.Common.{◌≡◌, ℕ, List, [], ◌∷◌, length, map, refl, sym, ap, ◌∙◌, arith, Result, Ok, Err}
use Rattle.std.proofs.lemmas.List.{length-map}
use Rattle.std.proofs.lemmas.Slice.Zip.{seconds-zip}
use Rattle.std.specs.Prelude.{zip, OnOk}
use Rattle.al_base.specs.Growth.{BeginsWith}
use Rattle.al_types.specs.Puts.{TypedName}
use Rattle.al_types.specs.Types.{Any, String, Type'}
use Rattle.al_expr_types.specs.Names.{names_in}
use Rattle.al_expr_types.specs.Tables.{objects_of}
use Rattle.al_expr_types.specs.Types.{type_in}
use Rattle.al_expr_types.specs.declared.ty.Base.TheVariants as base
use Rattle.al_expr_types.specs.declared.ty.Scalar.TheVariants as scalar
use Rattle.al_expr_types.specs.declared.ty.Ty.{Ty}
use Rattle.al_expr_types.specs.declared.types.Types.{Types}
use Rattle.al_expr_types.proofs.FieldMaps.{fields_stay}
use Rattle.al_expr_types.proofs.PrefixLemmas.{types_wider}
use Rattle.al_expr_types.proofs.Stays.{known_stays, type_stays}
use Rattle.al_check_objects.specs.Numbers.{Lists, Means}
use Rattle.al_check_objects.specs.declared.field_lists.FieldList.{FieldList}

-- ---- scalars

abbrev pub any : Ty
any = record { arrays = 0; of = base.Scalar scalar.Any }

pub any_means : (types : Types) → Means types any Any
any_means types = record { known = refl; is = refl }

abbrev pub string : Ty
string = record { arrays = 0; of = base.Scalar scalar.String }

pub string_means : (types : Types) → Means types string String
string_means types = record { known = refl; is = refl }

pub means_as : (types : Types) (t : Ty) (m n : Type') → m ≡ n → Means types t m → Means types t n
means_as types t m n e h = record { known = h.known; is = h.is ∙ e }

-- ---- in longer tables

pub means_stays : (new old : Types) (t : Ty) (m : Type') → BeginsWith (objects_of new) (objects_of old) → Means old t m → Means new t m
means_stays new old t m b h = record { known = known_stays new old t b h.known; is = type_stays new old t b h.known ∙ h.is }

pub lists_stay : (new old : Types) (l : FieldList) (ts : List TypedName) → BeginsWith (objects_of new) (objects_of old) → Lists old l ts → Lists new l ts
lists_stay new old l ts b h = record {
  known = types_wider new.objects.items old.objects.items l.map b h.known;
  are = fields_stay new old l.map b h.known ∙ h.are;
}

-- a fact that holds whatever the result is
pub always : {T E P : Type 0} (r : Result T E) → P → OnOk r P
always (Ok t) p = p
always (Err e) p = tt

-- ---- all fields at once

pub zip_maps : {X Y Z U : Type 0} (f : X → Y) (g : X → Z) (h : Z → U) (xs : List X) → zip (map f xs) (map h (map g xs)) ≡ map (λ x. (f x, h (g x))) xs
zip_maps f g h [] = refl
zip_maps f g h (x ∷ xs) = ap (λ ys. (f x, h (g x)) ∷ ys) (zip_maps f g h xs)

-- ---- the number of fields

zip_long : (ns : List (List ℕ)) (us : List Type') → length ns ≡ length us → length (zip ns us) ≡ length us
zip_long ns us e = sym (length-map (zip ns us) (λ p. p.1)) ∙ ap length (seconds-zip ns us (sym e))

pub list_long : (types : Types) (l : FieldList) (ts : List TypedName) → Lists types l ts → length l.map.types.items ≡ length ts
list_long types l ts h =
    let us = map (type_in (objects_of types)) l.map.types.items in
    let same : length us ≡ length l.map.types.items = length-map l.map.types.items (type_in (objects_of types)) in
    sym (ap length (sym h.are) ∙ zip_long (names_in l.map.names) us (omega (arith, l.map.even, same)) ∙ same)
