use Rattle.al_session_folder.specs.Printing.{AreNumbered, IsListed}
use Rattle.al_session_folder.proofs.joining.join_files.Given as goal

abbrev pub invariant-loop-index : goal.invariant-loop-index
invariant-loop-index g l = AreNumbered (IsListed g.L.Lint.meaning l.files.entries) l.index l.joined.items
