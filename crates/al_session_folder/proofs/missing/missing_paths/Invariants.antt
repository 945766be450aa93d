use Rattle.std.proofs.Common.{◌≡◌, take}
use Rattle.std.specs.List.{flat_map}
use Rattle.al_session_folder.specs.Kept.{folder_of, referents}
use Rattle.al_session_folder.specs.Missing.{absent_candidates}
use Rattle.al_session_folder.proofs.missing.missing_paths.Given as goal

abbrev pub invariant-loop-index : goal.invariant-loop-index
invariant-loop-index g l = referents l.missing.items ≡ flat_map (λ e. absent_candidates (folder_of l.files.entries) e.1.calls.targets.items) (take l.index l.files.entries)

abbrev pub invariant-loop-path : goal.invariant-loop-path
invariant-loop-path g l = l.paths.items ≡ take l.path-index (referents l.path-items)
