use Rattle.al_session_folder.specs.Printing.{AreNumbered, IsCycleFaults}
use Rattle.al_session_folder.proofs.joining.find_call_cycle_faults.Given as goal

abbrev pub invariant-loop-index : goal.invariant-loop-index
invariant-loop-index g l = AreNumbered (IsCycleFaults g.L.Lint.meaning l.linked) l.index l.all.items
