use Rattle.std.proofs.Common.{map, take}
use Rattle.al_expr_types.specs.Places.{IsNameIndex}
use Rattle.al_expr_types.proofs.names.index_of.Given as goal

abbrev pub invariant-loop-i : goal.invariant-loop-i
invariant-loop-i l = IsNameIndex l.index (map (λ n. n.now) (take l.i l.names))
