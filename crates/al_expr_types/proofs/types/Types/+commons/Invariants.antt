use Rattle.std.proofs.Common.{◌+◌, ◌*◌}
use Rattle.al_base.specs.Growth.{BeginsWith}
use Rattle.al_expr_types.specs.Tables.{objects_of}
use Rattle.al_expr_types.proofs.types.Types.+commons.Given as goal

abbrev pub decreases-common : goal.decreases-common
decreases-common l = 2 * l.n + 1

abbrev pub decreases-make_commons : goal.decreases-make_commons
decreases-make_commons l = 2 * l.n

abbrev pub invariant-make_commons-loop-m : goal.invariant-make_commons-loop-m
invariant-make_commons-loop-m l = BeginsWith (objects_of l.self) (objects_of l.fn.self)
