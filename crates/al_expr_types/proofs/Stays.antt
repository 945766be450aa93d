-- A type means the same, and stays in bounds, in a longer table.
use Rattle.std.proofs.Common.{◌≡◌, length, true}
use Rattle.al_base.specs.Growth.{BeginsWith}
use Rattle.al_expr_types.specs.Tables.{is_known, objects_of, type_at}
use Rattle.al_expr_types.specs.declared.ty.Ty.{Ty}
use Rattle.al_expr_types.specs.declared.types.Types.{Types}
use Rattle.al_expr_types.proofs.Below.{type_same}
use Rattle.al_expr_types.proofs.Keeping.{has_old}

pub type_stays : (new old : Types) (t : Ty) → BeginsWith (objects_of new) (objects_of old) → is_known old t ≡ true → type_at new t ≡ type_at old t
type_stays new old t b h = (type_same _ _ (length old.objects.items) (length new.objects.items) (has_old new.objects.items old.objects.items b) t h).1

pub known_stays : (new old : Types) (t : Ty) → BeginsWith (objects_of new) (objects_of old) → is_known old t ≡ true → is_known new t ≡ true
known_stays new old t b h = (type_same _ _ (length old.objects.items) (length new.objects.items) (has_old new.objects.items old.objects.items b) t h).0
