-- Call cycles: a call is on one if its callee is the caller itself, or reaches the caller by
-- further calls.
use Rattle.std.specs.Prelude.{ℕ, Bool, false, List, [], ◌∷◌, ◌++◌, Option, Some, None, bytes_eq}
use Rattle.std.specs.Prelude.{map}
use Rattle.std.specs.Prelude.{if◌then◌else◌}
use Rattle.std.specs.List.{filter_map, flat_map, position, zip}
use Rattle.al_base.specs.FaultLists.{fault_list}
use Rattle.al_base.specs.declared.faults.Fault.{Fault}
use Rattle.al_graph.specs.Within.{leads}
use Rattle.al_lint.specs.Meaning.{Meaning, candidates}
use Rattle.al_session_folder.specs.Folder.{Folder, faults_in, find_map, paths_of}
use Rattle.al_lint.specs.declared.lint.Target.{Target}

-- the number of the file at a path, in order of path, if there is one
abbrev pub number_of_path : Folder → List ℕ → Option ℕ
number_of_path f p = position (bytes_eq p) (paths_of f)

-- the callee of a call: its first candidate in the folder
abbrev pub callee : Folder → Target → Option ℕ
callee f t = find_map (number_of_path f) (candidates t)

-- for each file, the callees of its calls
abbrev pub calls_graph : {I : Type 0} → Meaning I → Folder → List (List ℕ)
calls_graph m f = map (λ e. filter_map (callee f) (m.calls e.0 e.1)) f

-- whether a call of the file with this number is on a call cycle: its callee is that file, or
-- reaches it by further calls
abbrev pub is_on_cycle : List (List ℕ) → ℕ → Option ℕ → Bool
is_on_cycle graph file None = false
is_on_cycle graph file (Some to) = leads graph to file

-- the faults of the calls of the file with this number that are on a call cycle, in the order of
-- the calls
abbrev pub call_cycle_faults : {I : Type 0} → Meaning I → Folder → ℕ → List ℕ → List ℕ → List Fault
call_cycle_faults m f file p b =
    flat_map (λ x. if is_on_cycle (calls_graph m f) file (callee f x.0) then x.1
    ∷ [] else []) (zip (m.calls p b) (m.sites p b))

-- a file's faults as reports list them: its own, and those of its calls on a call cycle, in order,
-- each once
unfoldable pub report_faults : {I : Type 0} → Meaning I → Folder → ℕ → List ℕ → List ℕ → List Fault
report_faults m f file p b = fault_list (call_cycle_faults m f file p b ++ faults_in m f p b)
