use Rattle.std.proofs.Common.{◌≡◌, map, take}
use Rattle.al_types.specs.Fused.{fuse_parts}
use Rattle.al_types.specs.Types.{Absent}
use Rattle.al_expr.specs.Listings.{parts_in}
use Rattle.al_expr.specs.Trees.{field_of, listed_parts}
use Rattle.al_expr.proofs.fusing.+fusing.Given as goal

abbrev pub invariant-add_fields-loop-i : goal.invariant-add_fields-loop-i
invariant-add_fields-loop-i l = parts_in l.all ≡ fuse_parts (parts_in l.fn.so_far) (listed_parts (map field_of (take l.i l.fields)) Absent)
