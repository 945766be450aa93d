-- The faults of a file's calls of files in the folder, to be reported if they are on a call cycle.
use Rattle.std.specs.Prelude.{ℕ, List, []}
use Rattle.std.specs.Option.{option_map_or}
use Rattle.std.specs.Result.{result_ok}
use Rattle.al_base.specs.declared.faults.Fault.{Fault}
use Rattle.al_yaml_tree.specs.Document.{tree_of}
use Rattle.al_tree.specs.declared.files.FileKind.{FileKind}
use Rattle.al_check_interfaces.specs.Uses.{calls_in, cycle_faults}

abbrev pub file_sites : FileKind → List ℕ → List Fault
file_sites kind bytes =
    option_map_or (λ root. cycle_faults (calls_in kind root)) (result_ok (tree_of bytes)) []
