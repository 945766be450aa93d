use Rattle.std.proofs.Common.{◌≡◌, false, not, length, take}
use Rattle.std.specs.Bool.{◌==◌}
use Rattle.std.specs.List.{enumerate_from, list_any}
use Rattle.al_session_folder.specs.Cycles.{call_cycle_faults}
use Rattle.al_session_folder.proofs.joining.has_call_cycles.Given as goal

abbrev pub invariant-loop-index : goal.invariant-loop-index
invariant-loop-index g l = list_any (λ x. not (length (call_cycle_faults g.L.Lint.meaning l.linked x.0 x.1.0 x.1.1) == 0))
    (take l.index (enumerate_from 0 l.linked)) ≡ false
