-- The calls of files in the folder, as kept with a file that was read.
use Rattle.std.specs.Prelude.{◌≡◌, List, Option, Some, map, option_map, slice_get}
use Rattle.std.specs.List.{filter_map}
use Rattle.al_base.specs.declared.codes.CallCode.TheVariants as code
use Rattle.al_base.specs.declared.faults.Fault.{Fault}
use Rattle.al_lint.specs.declared.lint.Target.{Target}
use Rattle.al_tree.specs.declared.files.FileKind.{FileKind}
use Rattle.al_yaml_tree.specs.Node.{Node}
use Rattle.al_check_interfaces.specs.Uses.{Call, calls_in, target_in, that_uses}
use Rattle.al_check_interfaces.specs.declared.calls.FolderCall as code_calls

-- a call, its target, and the fault to report if it is on a call cycle
abbrev pub FolderCall : Type 0
FolderCall = Option Call × Target × Fault

-- the meaning of a kept call, given all calls of its file
abbrev pub folder_call : List Call → code_calls.FolderCall → FolderCall
folder_call calls k = (slice_get calls k.number, k.target, k.fault)

abbrev pub as_folder_call : Call → Option FolderCall
as_folder_call c = option_map (λ t. (Some c, t, that_uses code.CallCycle c)) (target_in c.form)

-- these are the calls of files in the folder that a file makes, in order
abbrev pub AreCallsOf : FileKind → Node → List code_calls.FolderCall → Type 0
AreCallsOf kind root calls =
    map (folder_call (calls_in kind root)) calls ≡ filter_map as_folder_call (calls_in kind root)
