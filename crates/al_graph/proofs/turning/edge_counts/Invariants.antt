use Rattle.std.proofs.Common.{◌≡◌, length, vec_len}
use Rattle.al_graph.proofs.turning.edge_counts.Given as goal

abbrev pub invariant-loop-nodes : goal.invariant-loop-nodes
invariant-loop-nodes l = vec_len l.counts ≡ length l.graph

abbrev pub invariant-loop-node : goal.invariant-loop-node
invariant-loop-node l = vec_len l.counts ≡ length l.graph
