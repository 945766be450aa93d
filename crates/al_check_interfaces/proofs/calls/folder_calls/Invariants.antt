use Rattle.std.proofs.Common.{◌≡◌, ◌++◌, map, take}
use Rattle.std.specs.List.{filter_map, flat_map}
use Rattle.al_check_interfaces.specs.FolderCalls.{as_folder_call, folder_call}
use Rattle.al_check_interfaces.specs.CallViews.{call_of}
use Rattle.al_check_interfaces.specs.Uses.{wrong_uses}
use Rattle.al_check_interfaces.proofs.calls.folder_calls.Given as goal

abbrev pub invariant-loop-number : goal.invariant-loop-number
invariant-loop-number l = record {
  calls : map (folder_call (map call_of l.calls)) l.kept.items ≡ filter_map as_folder_call (map call_of (take l.number l.calls));
  faults : l.faults ≡ l.fn.faults ++ flat_map wrong_uses (map call_of (take l.number l.calls));
}
