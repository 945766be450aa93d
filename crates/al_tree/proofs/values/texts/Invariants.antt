use Rattle.std.proofs.Common.{◌≡◌, ◌++◌, drop, map}
use Rattle.std.specs.List.{filter_map}
use Rattle.al_yaml_tree.specs.View.{view}
use Rattle.al_tree.specs.Values.{text_in}
use Rattle.al_tree.proofs.values.texts.Given as goal

-- the texts found so far, followed by those of the remaining nodes, are all texts
abbrev pub invariant-loop-node : goal.invariant-loop-node
invariant-loop-node l = map (λ s. s.now) l.found.items ++ filter_map text_in (map view (drop l.node-index l.nodes)) ≡ filter_map text_in (map view l.nodes)
