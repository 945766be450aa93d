use Rattle.std.proofs.Common.{◌≡◌, map, take}
use Rattle.al_types.specs.Puts.{firsts}
use Rattle.al_expr.specs.Trees.{field_of}
use Rattle.al_expr.proofs.listings.Listing.of.Given as goal

abbrev pub invariant-loop-i : goal.invariant-loop-i
invariant-loop-i l = map field_of l.first.items ≡ firsts (map field_of (take l.i l.fields))
