use Rattle.std.proofs.Common.{◌≡◌, ◌++◌, [], take, drop, map}
use Rattle.al_yaml_tree.specs.View.{entries_of, entry_view, nodes_of, view}
use Rattle.al_tree.specs.Keys.{keys_in}
use Rattle.al_base.specs.Names.{among}
use Rattle.al_tree.specs.Table.{keys_view}
use Rattle.al_check_places.specs.Places.{place_of, places_of_entries, places_of_items}
use Rattle.al_check_places.specs.Ways.{way_step_view}
use Rattle.al_check_places.proofs.walk.+finds.Given as goal

-- what was found, and the places of what is left, are the places of all
abbrev pub invariant-find_items-loop-node : goal.invariant-find_items-loop-node
invariant-find_items-loop-node l = record {
  all : map place_of l.walk.found.items ++ places_of_items l.fn.walk.kind l.shape (map way_step_view l.fn.walk.way.steps.items) l.i (nodes_of (map view (drop l.node-index l.nodes)))
      ≡ map place_of l.fn.walk.found.items ++ places_of_items l.fn.walk.kind l.shape (map way_step_view l.fn.walk.way.steps.items) 0 (nodes_of (map view l.nodes));
  way : l.walk.way.steps.items ≡ l.fn.walk.way.steps.items;
  kind : l.walk.kind ≡ l.fn.walk.kind;
  index : l.i ≡ l.node-index;
}

abbrev pub invariant-find_entries-loop-i : goal.invariant-find_entries-loop-i
invariant-find_entries-loop-i l = record {
  found : map place_of l.walk.found.items ++ places_of_entries l.fn.walk.kind (keys_view l.takes) (keys_in (map entry_view (take l.i l.entries)))
      (among (keys_in (map entry_view l.entries))) (map way_step_view l.fn.walk.way.steps.items) (entries_of (map entry_view (drop l.i l.entries)))
      ≡ map place_of l.fn.walk.found.items ++ places_of_entries l.fn.walk.kind (keys_view l.takes) []
      (among (keys_in (map entry_view l.entries))) (map way_step_view l.fn.walk.way.steps.items) (entries_of (map entry_view l.entries));
  way : l.walk.way.steps.items ≡ l.fn.walk.way.steps.items;
  kind : l.walk.kind ≡ l.fn.walk.kind;
}
