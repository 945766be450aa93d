use Rattle.std.proofs.Common.{◌≡◌, ◌++◌, drop, map}
use Rattle.al_yaml_parts.specs.Private.Sums.{uncounted_view, within}
use Rattle.al_yaml_tree.specs.View.{view}
use Rattle.al_yaml_parts.proofs.sums.leave_items.Given as goal

abbrev pub invariant-items : goal.invariant-items
invariant-items l =
    map uncounted_view l.left.items ++ within l.levels (map view (drop l.node-index l.items))
    ≡ map uncounted_view l.fn.left.items ++ within l.levels (map view l.items)
