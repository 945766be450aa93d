-- The graph of calls, labels that decide which calls are on a cycle, and what the graph depends on.
use Rattle.std.specs.Prelude.{ℕ, ◌≡◌, ◌↔◌, List, Option, Some, None, Vec, length, map}
use Rattle.std.specs.Prelude.{slice_index_or}
use Rattle.std.specs.Global.{Global}
use Rattle.al_graph.specs.Graphs.{Edge, Walk, edges_of}
use Rattle.al_lint.specs.Meaning.{Meaning}
use Rattle.al_session_folder.specs.Folder.{Folder, paths_of}
use Rattle.al_session_folder.specs.Kept.{AreKept, Files, folder_of}
use Rattle.al_session_folder.specs.Cycles.{calls_graph}

-- the graph has an edge from the file with this number to the callee of a call, if there is one
abbrev pub IsCalledBy : List (List ℕ) → ℕ → Option ℕ → Type 0
IsCalledBy graph file None = Unit {0}
IsCalledBy graph file (Some to) = Edge graph file to

-- labels of files: a call is on a cycle if and only if its file and its callee have the same label
abbrev pub TellCycles : List (List ℕ) → List (Option ℕ) → Type 0
TellCycles graph labels = (length labels ≡ length graph) × ((j k : ℕ) → Edge graph j k →
    (slice_index_or labels k None ≡ slice_index_or labels j None) ↔ Walk graph k j)

-- The graph of a folder's calls, as the program keeps it, and labels that decide which of them are
-- on a cycle.
pub record IsCallGraph {I : Type 0} (m : Meaning I) (f : Folder) (graph : List (Vec ℕ Global))
    (labels : List (Option ℕ)) : Type 0 where
  pub edges : edges_of graph ≡ calls_graph m f
  pub tell : TellCycles (calls_graph m f) labels

-- The second folder has the paths of the first, and each file has the same calls: so they have the
-- same graph.
pub record HasSameCalls {I : Type 0} (m : Meaning I) (f g : Folder) : Type 0 where
  pub paths : paths_of g ≡ paths_of f
  pub calls : map (λ e. m.calls e.0 e.1) g ≡ map (λ e. m.calls e.0 e.1) f

-- Kept files with the graph of their calls.
pub record AreLinked {U I : Type 0} (m : Meaning I) (is_unit : U → List ℕ → List ℕ
    → Type 0) (files : Files U I)
    (graph : List (Vec ℕ Global)) (labels : List (Option ℕ)) : Type 0 where
  pub kept : AreKept m is_unit files
  pub calls : IsCallGraph m (folder_of files) graph labels
