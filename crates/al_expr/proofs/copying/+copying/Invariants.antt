use Rattle.std.proofs.Common.{◌≡◌, map, take}
use Rattle.al_expr.specs.Trees.{field_of}
use Rattle.al_expr.proofs.copying.+copying.Given as goal

abbrev pub invariant-copy_fields-loop-field : goal.invariant-copy_fields-loop-field
invariant-copy_fields-loop-field l = map field_of l.copies.items ≡ map field_of (take l.field-index l.fields)
