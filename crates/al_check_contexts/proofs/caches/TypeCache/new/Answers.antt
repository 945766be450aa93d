use Rattle.std.proofs.Common.{◌≡◌, ◌∙◌, None, Some, ap, get_or, sym}
use Rattle.al_check_contexts.proofs.Kept.{nothing_pushed}
use Rattle.al_check_contexts.proofs.caches.TypeCache.new.Goals as goal

pub loop-i-init : goal.loop-i-init
loop-i-init c = λ k t e. let no : None ≡ Some t = sym (ap (λ xs. get_or xs k None) c.new-made.ensures.items) ∙ e in cc

pub loop-i-preserved : goal.loop-i-preserved
loop-i-preserved c = λ k t e.
    nothing_pushed c.loop-i.made.items c.loop-i.invariant k t (sym (ap (λ xs. get_or xs k None) c.in_ok-push.ensures.items) ∙ e)

pub returns : goal.returns
returns c = λ types at. record { each = λ i t e. absurd (c.loop-i.invariant i t e) }
