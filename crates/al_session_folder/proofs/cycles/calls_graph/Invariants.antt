use Rattle.std.proofs.Common.{◌≡◌, map, take}
use Rattle.std.specs.List.{filter_map}
use Rattle.al_graph.specs.Graphs.{edges_of}
use Rattle.al_session_folder.specs.Kept.{folder_of}
use Rattle.al_session_folder.specs.Cycles.{callee}
use Rattle.al_session_folder.proofs.cycles.calls_graph.Given as goal

abbrev pub invariant-loop-index : goal.invariant-loop-index
invariant-loop-index g l = edges_of l.graph.items ≡ map (λ e. filter_map (callee (folder_of l.files.entries)) e.1.calls.targets.items) (take l.index l.files.entries)
