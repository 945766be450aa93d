use Rattle.std.proofs.Common.{◌≡◌, Some, subst}
use Rattle.al_check_objects.specs.Numbers.{Means}
use Rattle.al_check_contexts.proofs.Kept.{set_kept}
use Rattle.al_check_contexts.proofs.caches.TypeCache.set.Goals as goal

pub returns-then-i-len : goal.returns-then-i-len
returns-then-i-len c = λ types at h m. record {
  each = set_kept (λ k t. Means types t (at k)) c.args.self.now.made.items c.args.i (Some c.args.ty) h.each
      (λ t e. let z : c.args.ty ≡ t = cc in subst (λ u. Means types u (at c.args.i)) z m);
}
