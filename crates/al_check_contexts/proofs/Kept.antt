-- What is kept by positions, where the table has grown, and where one more is kept.
use Rattle.std.proofs.Common.{◌≡◌, ℕ, List, [], ◌∷◌, ◌++◌, get_or, set, suc, zero, sym, Option, Some, None}
use Rattle.std.specs.Prelude.{IfSome}
use Rattle.al_base.specs.Growth.{BeginsWith}
use Rattle.al_types.specs.Types.{Type'}
use Rattle.al_expr_types.specs.Tables.{objects_of}
use Rattle.al_expr_types.specs.declared.ty.Ty.{Ty}
use Rattle.al_expr_types.specs.declared.types.Types.{Types}
use Rattle.al_check_objects.specs.Numbers.{Means}
use Rattle.al_check_objects.proofs.Numbers.{means_stays}
use Rattle.al_check_contexts.specs.Caches.{Keeps}
use Rattle.al_check_contexts.specs.declared.caches.TypeCache.{TypeCache}

pub keeps_stays : (new old : Types) (at : ℕ → Type') (c : TypeCache) → BeginsWith (objects_of new) (objects_of old) → Keeps old at c → Keeps new at c
keeps_stays new old at c b h = record { each = λ i t e. means_stays new old t (at i) b (h.each i t e) }

pub nothing_pushed : (made : List (Option Ty)) → ((k : ℕ) (t : Ty) → get_or made k None ≡ Some t → ⊥) → (k : ℕ) (t : Ty) →
    get_or (made ++ None ∷ []) k None ≡ Some t → ⊥
nothing_pushed [] h zero t e = cc
nothing_pushed [] h (suc k) t e = cc
nothing_pushed (x ∷ made) h zero t e = h zero t e
nothing_pushed (x ∷ made) h (suc k) t e = nothing_pushed made (λ m u g. h (suc m) u g) k t e

pub set_kept : (P : ℕ → Ty → Type 0) (made : List (Option Ty)) (i : ℕ) (o : Option Ty) → ((k : ℕ) (t : Ty) → get_or made k None ≡ Some t → P k t) →
    ((t : Ty) → o ≡ Some t → P i t) → (k : ℕ) (t : Ty) → get_or (set made i o) k None ≡ Some t → P k t
set_kept P [] i o h new k t e = h k t e
set_kept P (x ∷ made) zero o h new zero t e = new t e
set_kept P (x ∷ made) zero o h new (suc k) t e = h (suc k) t e
set_kept P (x ∷ made) (suc i) o h new zero t e = h zero t e
set_kept P (x ∷ made) (suc i) o h new (suc k) t e = set_kept (λ m. P (suc m)) made i o (λ m u g. h (suc m) u g) new k t e

-- what is there is of its position
pub kept_means : (c : TypeCache) (i : ℕ) (o : Option Ty) → o ≡ get_or c.made.items i None →
    IfSome o (λ t. (types : Types) (at : ℕ → Type') → Keeps types at c → Means types t (at i))
kept_means c i None e = tt
kept_means c i (Some t) e = λ types at h. h.each i t (sym e)
