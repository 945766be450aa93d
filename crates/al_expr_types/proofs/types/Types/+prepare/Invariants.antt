use Rattle.al_base.specs.Growth.{BeginsWith}
use Rattle.al_expr_types.specs.Tables.{objects_of}
use Rattle.al_expr_types.proofs.types.Types.+prepare.Given as goal

abbrev pub decreases-prepare : goal.decreases-prepare
decreases-prepare l = l.n

abbrev pub invariant-loop-m : goal.invariant-loop-m
invariant-loop-m l = BeginsWith (objects_of l.self) (objects_of l.fn.self)
