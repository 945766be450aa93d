-- The graph of calls that is kept beside the files.
use Rattle.std.specs.Prelude.{Option, Some, None}
use Rattle.al_lint.specs.Meaning.{Meaning}
use Rattle.al_session_folder.specs.Folder.{Folder}
use Rattle.al_session_folder.specs.CallGraphs.{IsCallGraph}
use Rattle.al_session_folder.specs.declared.cycles.CallGraph.{CallGraph}

-- the graph, if there is one, is the folder's graph of calls
abbrev pub IsGraphIf : {I : Type 0} → Meaning I → Folder → Option CallGraph → Type 0
IsGraphIf m f None = Unit {0}
IsGraphIf m f (Some calls) = IsCallGraph m f calls.graph.items calls.labels.items
