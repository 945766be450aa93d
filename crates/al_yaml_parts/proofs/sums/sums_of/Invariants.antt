use Rattle.std.proofs.Common.{map}
use Rattle.al_yaml_parts.specs.Private.Sums.{uncounted_view}
use Rattle.al_yaml_tree.specs.View.{view}
use Rattle.al_yaml_parts.proofs.SumLemmas.{IsCounting, nodes_left}
use Rattle.al_yaml_parts.proofs.sums.sums_of.Given as goal

abbrev pub invariant-nodes : goal.invariant-nodes
invariant-nodes l = IsCounting (view l.node) l.sums (map uncounted_view l.left.items)

abbrev pub decreases-nodes : goal.decreases-nodes
decreases-nodes l = nodes_left (map uncounted_view l.left.items)
