use Rattle.std.proofs.Common.{◌≡◌, map, take}
use Rattle.al_types.specs.Strings.{strings}
use Rattle.al_expr.specs.Trees.{field_of}
use Rattle.al_expr.proofs.taking.strings_listing.Given as goal

abbrev pub invariant-loop-i : goal.invariant-loop-i
invariant-loop-i l = map field_of l.fields.items ≡ strings (take l.i l.names)
