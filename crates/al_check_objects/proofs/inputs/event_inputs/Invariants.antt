use Rattle.std.proofs.Common.{[], map, take}
use Rattle.al_expr_types.specs.declared.types.Types.{Types}
use Rattle.al_tree.specs.Values.{member_of}
use Rattle.al_types.specs.Puts.{put_all, put_new}
use Rattle.al_check_objects.specs.Inputs.{input_field}
use Rattle.al_check_objects.specs.Numbers.{Lists}
use Rattle.al_check_objects.proofs.inputs.event_inputs.Given as goal

abbrev pub invariant-loop-input : goal.invariant-loop-input
invariant-loop-input l = (types : Types) → Lists types l.fields (put_all put_new [] (map input_field (map member_of (take l.input-index l.input-items))))
