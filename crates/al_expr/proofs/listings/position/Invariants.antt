use Rattle.std.proofs.Common.{◌≡◌, None, map, take}
use Rattle.al_types.specs.Indexes.{name_at}
use Rattle.al_expr.specs.Trees.{field_of}
use Rattle.al_expr.proofs.listings.position.Given as goal

abbrev pub invariant-loop-i : goal.invariant-loop-i
invariant-loop-i l = name_at (map field_of (take l.i l.fields)) (field_of l.other).0 ≡ None
