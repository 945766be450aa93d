-- What a table keeps of objects: what all fields of one, and the type of others, have in common;
-- and its fields by name.
use Rattle.std.specs.Prelude.{◌≡◌, ◌<◌, ℕ, List, length, true, Option, Some}
use Rattle.std.specs.BTreeMap.{BTreeMap, get}
use Rattle.std.specs.Coded.{×_prop, Π_prop, →_prop, le_prop}
use Rattle.std.specs.Ordering.{nat_cmp}
use mathlib.Core.Bool.{Bool-set}
use mathlib.Core.HLevel.{×₃_prop, →_set}
use Rattle.al_expr_types.specs.Sets.{Optional-set}
use Rattle.al_expr_types.specs.Types.{are_fields_below, fields_parts, is_rest_below, object_in}
use Rattle.al_expr_types.specs.Types.{parts_of_all, rest_in}
use Rattle.al_expr_types.specs.declared.objects.Fields.{Fields}
use Rattle.al_expr_types.specs.declared.objects.Object.{Object}
use Rattle.al_expr_types.specs.declared.ty.Ty.{Ty}

abbrev pub IsCommon : List Object → ℕ → Option Ty → Type 0
IsCommon os n t =
    (n < length os) × (is_rest_below (length os) t ≡ true)
    × (rest_in (parts_of_all os) t ≡ (object_in (parts_of_all os) n).2)

-- the fields of an object by name, and the type of others
abbrev pub IsFieldIndex : List Object → ℕ → Fields → Type 0
IsFieldIndex os n f =
    let ms = parts_of_all os in
    ((n < length os) × (are_fields_below (length os) f ≡ true))
    × (((fields_parts ms f).0 ≡ (object_in ms n).0) × ((fields_parts ms f).1 ≡ (object_in ms n).1))

-- what is kept is right
abbrev pub AreCommons : List Object → BTreeMap ℕ (Option Ty) → Type 0
AreCommons os kept = (n : ℕ) (t : Option Ty) → get nat_cmp kept n ≡ Some t → IsCommon os n t

pub AreCommons-prop : (os : List Object) (kept : BTreeMap ℕ (Option Ty))
    → IsProp (AreCommons os kept)
AreCommons-prop os kept =
    Π_prop (λ n. Π_prop (λ t. →_prop (×₃_prop le_prop (Bool-set _ _) (Optional-set _ _))))

abbrev pub AreIndexes : List Object → BTreeMap ℕ Fields → Type 0
AreIndexes os kept = (n : ℕ) (f : Fields) → get nat_cmp kept n ≡ Some f → IsFieldIndex os n f

pub AreIndexes-prop : (os : List Object) (kept : BTreeMap ℕ Fields) → IsProp (AreIndexes os kept)
AreIndexes-prop os kept =
    Π_prop (λ n. Π_prop (λ f. →_prop
    (×_prop (×_prop le_prop (Bool-set _ _))
    (×_prop (→_set Optional-set _ _) (Optional-set _ _)))))
