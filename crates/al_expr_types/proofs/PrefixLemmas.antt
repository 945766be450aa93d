-- Prefixes of the fields of a map: the common type of all fields from that of a shorter prefix and the types after it.
use Rattle.std.proofs.Common.{◌≡◌, ◌+◌, ◌<◌, ◌≤◌, ℕ, List, [], ◌∷◌, ◌++◌, get_or, map, take, length, true, Option, Some, None, refl, sym, ap, ◌∙◌, arith}
use Rattle.std.proofs.lemmas.List.{length-take}
use Rattle.std.specs.List.{list_all}
use Rattle.std.specs.Prelude.{Contains, zip}
use Rattle.al_base.specs.Growth.{BeginsWith}
use Rattle.al_types.specs.Types.{Type', Absent, Optional, Parts, Present, common_in, fuse_optional, parts_with}
use Rattle.al_types.proofs.FuseLaws.{nothing_last, optional_assoc}
use Rattle.al_expr_types.specs.Names.{names_in}
use Rattle.al_expr_types.specs.Prefixes.{HasPrefix, prefix_parts}
use Rattle.al_expr_types.specs.Types.{common_of, is_below, named_types, object_in, parts_of_all, type_in}
use Rattle.al_expr_types.specs.declared.fields.FieldMap.{FieldMap}
use Rattle.al_expr_types.specs.declared.objects.Object.{Object}
use Rattle.al_expr_types.specs.declared.objects.Prefix.{Prefix}
use Rattle.al_expr_types.specs.declared.ty.Ty.{Ty}
use Rattle.al_expr_types.specs.declared.types.Types.{Types}
use Rattle.al_expr_types.proofs.Below.{all_taken, types_same}
use Rattle.al_expr_types.proofs.Gathering.{common_zipped, held, taken, types_more}
use Rattle.al_expr_types.proofs.Keeping.{has_old, longer, same_there}

-- ---- the common type of the first types, from that of fewer and of the types after these

abbrev common : (Ty → Type') → List Ty → Optional
common g ts = common_of (map g ts)

abbrev pub IsAfter : List Ty → ℕ → List Ty → ℕ → Type 0
IsAfter ts j own i =
    (ms : List Parts) → fuse_optional (common_of (map (type_in ms) (take j ts))) (common_of (map (type_in ms) own)) ≡ common_of (map (type_in ms) (take i ts))

pub after_none : (ts : List Ty) (j : ℕ) → IsAfter ts j [] j
after_none ts j = λ ms. nothing_last (common_of (map (type_in ms) (take j ts)))

pub after_more : (ts own new : List Ty) (j i : ℕ) (t : Ty) → i < length ts → t ≡ get_or ts i t → new ≡ own ++ t ∷ [] → IsAfter ts j own i → IsAfter ts j new (i + 1)
after_more ts own new j i t lt e is h = λ ms.
    let g = type_in ms in
    let first = common g (take j ts) in
    ap (λ us. fuse_optional first (common g us)) is ∙ ap (fuse_optional first) (types_more g own t) ∙ sym (optional_assoc first (common g own) (Present (g t)))
    ∙ ap (λ o. fuse_optional o (Present (g t))) (h ms) ∙ sym (taken (common g) (λ u. Present (g u)) (types_more g) ts i t lt e)

pub after_same : (ts own : List Ty) (j i : ℕ) (t : Ty) → i < length ts → t ≡ get_or ts i t → Contains (take i ts) t → IsAfter ts j own i → IsAfter ts j own (i + 1)
after_same ts own j i t lt e there h = λ ms.
    let g = type_in ms in
    h ms ∙ sym (held (common g) (λ u. Present (g u)) (λ u us. refl) (take i ts) t there.0 there.1 there.2)
    ∙ sym (taken (common g) (λ u. Present (g u)) (types_more g) ts i t lt e)

-- the common type of all fields of a prefix
prefix_common : (ms : List Parts) (m : FieldMap) (k : ℕ) → (prefix_parts ms m k).2 ≡ common_of (map (type_in ms) (take k m.types.items))
prefix_common ms m k =
    let ns = names_in m.names in
    let ts = take k m.types.items in
    let few : length ts ≤ length ns = omega (arith, length-take k m.types.items, m.even) in
    nothing_last (common_in (named_types ms ns ts)) ∙ common_zipped (type_in ms) ns ts few

-- a prefix whose common type is computed from that of a shorter one
pub same_by : (ms : List Parts) (f : FieldMap) (b : Prefix) (own : List Ty) (m : FieldMap) (k : ℕ) → f ≡ m →
    IsAfter m.types.items b.count own k → object_in ms b.object ≡ prefix_parts ms m b.count →
    ((prefix_parts ms f k).0, (prefix_parts ms f k).1, fuse_optional (object_in ms b.object).2 (common_of (map (type_in ms) own))) ≡ prefix_parts ms m k
same_by ms f b own m k at after base =
    let same = ap (λ g. prefix_parts ms g k) at in
    let all : fuse_optional (object_in ms b.object).2 (common_of (map (type_in ms) own)) ≡ (prefix_parts ms m k).2 =
    ap (λ o. fuse_optional o (common_of (map (type_in ms) own))) (ap (λ p. p.2) base ∙ prefix_common ms m b.count) ∙ after ms ∙ sym (prefix_common ms m k) in
    λ d. ((same d).0, (same d).1, all d)

-- ---- in longer tables

pub types_wider : (new old : List Object) (m : FieldMap) → BeginsWith (parts_of_all new) (parts_of_all old) →
    list_all (is_below (length old)) m.types.items ≡ true → list_all (is_below (length new)) m.types.items ≡ true
types_wider new old m b h = (types_same _ _ (length old) (length new) (has_old new old b) m.types.items h).0

pub prefix_kept : (new old : List Object) (m : FieldMap) (k : ℕ) → BeginsWith (parts_of_all new) (parts_of_all old) →
    list_all (is_below (length old)) m.types.items ≡ true → prefix_parts (parts_of_all new) m k ≡ prefix_parts (parts_of_all old) m k
prefix_kept new old m k b h =
    let same = types_same _ _ (length old) (length new) (has_old new old b) (take k m.types.items) (all_taken (is_below (length old)) k m.types.items h) in
    λ d. parts_with (zip (names_in m.names) (same.1 d)) Absent

pub prefix_longer : (new old : Types) (m : FieldMap) (o : Option Prefix) → BeginsWith (parts_of_all new.objects.items) (parts_of_all old.objects.items) →
    list_all (is_below (length old.objects.items)) m.types.items ≡ true → HasPrefix old m o → HasPrefix new m o
prefix_longer new old m None b h p = tt
prefix_longer new old m (Some x) b h p =
    let le = longer new.objects.items old.objects.items b in (
      omega (arith, p.0, le),
      same_there new.objects.items old.objects.items x.object b p.0 ∙ p.1 ∙ sym (prefix_kept new.objects.items old.objects.items m x.count b h),
    )
