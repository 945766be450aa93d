use Rattle.std.proofs.Common.{◌≡◌, ◌++◌, drop, map}
use Rattle.al_yaml_parts.specs.Private.Sums.{members, uncounted_view, within}
use Rattle.al_yaml_tree.specs.View.{entry_view}
use Rattle.al_yaml_parts.proofs.sums.leave_entries.Given as goal

abbrev pub invariant-entries : goal.invariant-entries
invariant-entries l =
    map uncounted_view l.left.items ++ within l.levels (members (map entry_view (drop l.entry-index l.entries)))
    ≡ map uncounted_view l.fn.left.items ++ within l.levels (members (map entry_view l.entries))
