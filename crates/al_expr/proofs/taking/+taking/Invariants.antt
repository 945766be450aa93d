use Rattle.std.proofs.Common.{◌≡◌, ◌+◌, ◌*◌, map, take}
use Rattle.al_types.specs.Fused.{fuse_all}
use Rattle.al_expr_types.specs.Names.{names_in}
use Rattle.al_expr_types.specs.Tables.{objects_of}
use Rattle.al_expr_types.specs.Types.{named_types, object_in}
use Rattle.al_expr.specs.Listings.{parts_in}
use Rattle.al_expr.specs.Trees.{field_of}
use Rattle.al_expr.proofs.taking.+taking.Given as goal

abbrev pub decreases-tree_below : goal.decreases-tree_below
decreases-tree_below l = 4 * l.below

abbrev pub decreases-rest_tree : goal.decreases-rest_tree
decreases-rest_tree l = 4 * l.below + 1

abbrev pub decreases-fields_listing : goal.decreases-fields_listing
decreases-fields_listing l = 4 * l.below + 2

abbrev pub decreases-object_listing : goal.decreases-object_listing
decreases-object_listing l = 4 * l.n + 3

abbrev pub invariant-object_listing-loop-m : goal.invariant-object_listing-loop-m
invariant-object_listing-loop-m l = parts_in l.all ≡ fuse_all (map (object_in (objects_of l.types)) (take l.m-index l.m-items))

abbrev pub invariant-fields_listing-loop-i : goal.invariant-fields_listing-loop-i
invariant-fields_listing-loop-i l =
    map field_of l.trees.items
    ≡ take l.i (named_types (objects_of l.types) (names_in l.fields.map.value.names) (take l.fields.count l.fields.map.value.types.items))
