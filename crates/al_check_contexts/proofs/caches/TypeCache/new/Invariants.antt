use Rattle.std.proofs.Common.{◌≡◌, ℕ, Some, None, get_or}
use Rattle.al_expr_types.specs.declared.ty.Ty.{Ty}
use Rattle.al_check_contexts.proofs.caches.TypeCache.new.Given as goal

abbrev pub invariant-loop-i : goal.invariant-loop-i
invariant-loop-i l = (k : ℕ) (t : Ty) → get_or l.made.items k None ≡ Some t → ⊥
