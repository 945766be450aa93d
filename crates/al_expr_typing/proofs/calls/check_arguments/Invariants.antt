use Rattle.std.proofs.Common.{◌≡◌, ◌++◌, List, map, drop}
use Rattle.al_expr_typing.specs.Arguments.{argument_in}
use Rattle.al_types.specs.Types.{Parts}
use Rattle.al_expr_typing.specs.Meaning.{wrong_arguments}
use Rattle.al_expr_typing.proofs.calls.check_arguments.Given as goal

abbrev pub invariant-loop-index : goal.invariant-loop-index
invariant-loop-index l = (ms : List Parts) → l.faults
    ++ wrong_arguments l.name.text.now l.parameters l.index (map (argument_in ms) (drop l.index l.arguments))
    ≡ l.initial.faults ++ wrong_arguments l.name.text.now l.parameters 0 (map (argument_in ms) l.arguments)
