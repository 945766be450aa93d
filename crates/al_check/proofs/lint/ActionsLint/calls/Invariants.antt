use Rattle.std.proofs.Common.{◌≡◌, map, take}
use Rattle.al_check.proofs.lint.ActionsLint.calls.Given as goal

abbrev pub invariant-loop-call : goal.invariant-loop-call
invariant-loop-call l = l.targets.items ≡ map (λ c. c.target) (take l.call-index l.call-items)
