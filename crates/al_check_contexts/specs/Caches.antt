-- The invariant of a cache of types.
use Rattle.std.specs.Prelude.{◌≡◌, ℕ, Some, None, get_or}
use Rattle.al_types.specs.Types.{Type'}
use Rattle.al_expr_types.specs.declared.ty.Ty.{Ty}
use Rattle.al_expr_types.specs.declared.types.Types.{Types}
use Rattle.al_check_objects.specs.Numbers.{Means}
use Rattle.al_check_contexts.specs.declared.caches.TypeCache.{TypeCache}

-- the type kept at a position is the type of that position
pub record Keeps (types : Types) (at : ℕ → Type') (c : TypeCache) : Type 0 where
  pub each : (i : ℕ) (t : Ty) → get_or c.made.items i None ≡ Some t → Means types t (at i)
