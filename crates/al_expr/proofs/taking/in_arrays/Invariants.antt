use Rattle.std.proofs.Common.{◌≡◌}
use Rattle.al_expr_types.specs.Types.{arrays_of}
use Rattle.al_expr.specs.Trees.{ty_of}
use Rattle.al_expr.proofs.taking.in_arrays.Given as goal

abbrev pub invariant-loop-made : goal.invariant-loop-made
invariant-loop-made l = ty_of l.all ≡ arrays_of l._made (ty_of l.fn.ty)
