use Rattle.std.proofs.Common.{◌≡◌, ◌++◌, take}
use Rattle.al_session_folder.specs.Kept.{folder_of, referents}
use Rattle.al_session_folder.specs.Missing.{absent_candidates}
use Rattle.al_session_folder.proofs.missing.add_absent.Given as goal

abbrev pub invariant-loop-target : goal.invariant-loop-target
invariant-loop-target g l = referents l.missing.items ≡ referents l.fn.missing.items ++ absent_candidates (folder_of l.files.entries) (take l.target-index l.targets)
