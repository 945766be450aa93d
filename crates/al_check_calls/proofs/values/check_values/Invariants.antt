use Rattle.std.proofs.Common.{◌≡◌, ◌++◌, map, take}
use Rattle.std.specs.List.{flat_map}
use Rattle.al_check_calls.specs.AnswerViews.{typing_in}
use Rattle.al_check_calls.specs.Private.Comparing.{wrong_value}
use Rattle.al_check_contexts.specs.Environments.{HasMoved, file_of}
use Rattle.al_check_interfaces.specs.CallViews.{call_of}
use Rattle.al_tree.specs.Values.{member_of}
use Rattle.al_check_calls.proofs.values.check_values.Given as goal

abbrev pub invariant-loop-member : goal.invariant-loop-member
invariant-loop-member l = record {
  moved : HasMoved l.env l.fn.env;
  faults : l.faults ≡ l.fn.faults
      ++ flat_map (wrong_value (typing_in (file_of l.fn.env)) (call_of l.call) l.inputs) (map member_of (take l.member-index l.member-items));
}
