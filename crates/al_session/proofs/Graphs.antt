-- The graph of calls that a session keeps, after a put.
use Rattle.std.proofs.Common.{◌≡◌, ℕ, List, Option, Some, None}
use Rattle.std.specs.Option.{option_map}
use Rattle.al_lint.specs.Meaning.{Meaning}
use Rattle.al_session_folder.specs.Folder.{Folder, with_file}
use Rattle.al_session_folder.specs.Kept.{AreKept, Files, IsKept, file_at, folder_of}
use Rattle.al_session_folder.specs.CallGraphs.{HasSameCalls}
use Rattle.al_session_folder.specs.declared.kept.KeptFile.{KeptFile}
use Rattle.al_session_folder.specs.declared.cycles.CallGraph.{CallGraph}
use Rattle.al_session_folder.proofs.SameCalls.{graph_still, put_same_calls}
use Rattle.al_session.specs.Private.Graphs.{IsGraphIf}

graph_by : {I : Type 0} (m : Meaning I) (f g : Folder) → HasSameCalls m f g → (calls : Option CallGraph) → IsGraphIf m f calls → IsGraphIf m g calls
graph_by m f g same None is = tt
graph_by m f g same (Some calls) is = graph_still m f g same calls.graph.items calls.labels.items is

-- The graph stays if the old file at the path makes the same calls as the new one.
pub graph_put : {U I : Type 0} (m : Meaning I) (is_unit : U → List ℕ → List ℕ → Type 0) (files : Files U I) (p : List ℕ) (file : KeptFile U I) (calls : Option CallGraph) →
    AreKept m is_unit files → IsKept m is_unit p file → option_map (λ (kept : KeptFile U I). kept.calls.targets.items) (file_at files p) ≡ Some file.calls.targets.items →
    IsGraphIf m (folder_of files) calls → IsGraphIf m (with_file (folder_of files) p file.bytes.items) calls
graph_put m is_unit files p file calls kept one same is =
    graph_by m (folder_of files) (with_file (folder_of files) p file.bytes.items) (put_same_calls m is_unit files p file kept one same) calls is
