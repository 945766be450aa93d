use Rattle.std.proofs.Common.{◌≡◌, ◌++◌, List, map, drop}
use Rattle.al_expr_typing.specs.Arguments.{argument_in}
use Rattle.al_types.specs.Types.{Parts}
use Rattle.al_expr_typing.specs.Meaning.{unused_arguments}
use Rattle.al_expr_typing.proofs.calls.check_used.Given as goal

abbrev pub invariant-loop-index : goal.invariant-loop-index
invariant-loop-index l = (ms : List Parts) → l.faults ++ unused_arguments l.index (drop l.index l.used) (map (argument_in ms) (drop l.index l.arguments))
    ≡ l.initial.faults ++ unused_arguments 0 l.used (map (argument_in ms) l.arguments)
