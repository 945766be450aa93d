use Rattle.std.proofs.Common.{◌≡◌, ◌++◌, [], take, drop, map}
use Rattle.al_yaml_tree.specs.View.{entries_of, entry_view, nodes_of, view}
use Rattle.al_tree.specs.Faults.{entries_faults, items_faults}
use Rattle.al_tree.specs.Keys.{keys_in}
use Rattle.al_base.specs.Names.{among}
use Rattle.al_tree.specs.Table.{keys_view}
use Rattle.al_tree.proofs.check.+checks.Given as goal

-- the faults so far, followed by those of the remaining items, are the faults of all items
abbrev pub invariant-check_items-loop-node : goal.invariant-check_items-loop-node
invariant-check_items-loop-node l =
    l.faults ++ items_faults l.shape l.above (nodes_of (map view (drop l.node-index l.nodes)))
    ≡ l.fn.faults ++ items_faults l.shape l.above (nodes_of (map view l.nodes))

abbrev pub invariant-check_entries-loop-i : goal.invariant-check_entries-loop-i
invariant-check_entries-loop-i l =
    let all = among (keys_in (map entry_view l.entries)) in
    l.faults ++ entries_faults (keys_view l.keys) (keys_in (map entry_view (take l.i l.entries))) all (entries_of (map entry_view (drop l.i l.entries)))
    ≡ l.fn.faults ++ entries_faults (keys_view l.keys) [] all (entries_of (map entry_view l.entries))
