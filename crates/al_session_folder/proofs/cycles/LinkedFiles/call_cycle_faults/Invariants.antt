use Rattle.std.proofs.Common.{◌≡◌, ◌++◌, drop, ℕ, List, Some, slice_get}
use Rattle.al_session_folder.specs.Kept.{folder_of}
use Rattle.al_session_folder.specs.Cycles.{calls_graph, call_cycle_faults}
use Rattle.al_session_folder.proofs.CallCycles.{faults_on_cycles}
use Rattle.al_session_folder.proofs.cycles.LinkedFiles.call_cycle_faults.Given as goal

-- the faults so far, then those of the calls left
abbrev pub invariant-loop-call : goal.invariant-loop-call
invariant-loop-call g l = (p b : List ℕ) → slice_get (folder_of l.self-inside.files.now.entries) l.index ≡ Some (p, b) →
    l.faults ++ faults_on_cycles (calls_graph g.L.Lint.meaning (folder_of l.self-inside.files.now.entries)) (folder_of l.self-inside.files.now.entries) l.index
    (drop l.call (g.L.Lint.meaning.calls p b)) (drop l.call (g.L.Lint.meaning.sites p b))
    ≡ call_cycle_faults g.L.Lint.meaning (folder_of l.self-inside.files.now.entries) l.index p b
