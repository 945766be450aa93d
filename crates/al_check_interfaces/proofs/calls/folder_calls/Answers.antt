use Rattle.std.proofs.Common.{arith, map}
use Rattle.std.proofs.lemmas.Grind.{common_steps}
use Rattle.std.proofs.lemmas.List.Elements.{filter_map-append}
use Rattle.al_check_interfaces.specs.CallViews.{call_of}
use Rattle.al_check_interfaces.proofs.CallLists.{at_number}
use Rattle.al_check_interfaces.proofs.calls.folder_calls.Goals as goal

pub loop-number-preserved : goal.loop-number-preserved
loop-number-preserved c =
    let calls = c.args.calls.now in
    let there = at_number call_of calls c.loop-number.number c.index-calls-number.result c.loop-number-test.true c.index-calls-number.is in
    record {
      calls = grind (arith, common_steps, filter_map-append, c.in_ok-add_call.ensures.calls (map call_of calls) there);
      faults = grind (arith, common_steps);
    }
