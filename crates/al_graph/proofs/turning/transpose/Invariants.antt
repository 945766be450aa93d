use Rattle.std.proofs.Common.{◌≡◌, [], length, replicate, take, vec_len}
use Rattle.al_graph.specs.Graphs.{edges_of}
use Rattle.al_graph.proofs.TurnLemmas.{AddsEdges, TurnedTo}
use Rattle.al_graph.proofs.turning.transpose.Given as goal

abbrev pub invariant-loop-count : goal.invariant-loop-count
invariant-loop-count l = edges_of l.transpose.items ≡ replicate l.count-index []

abbrev pub invariant-loop-node : goal.invariant-loop-node
invariant-loop-node l = record { len : vec_len l.transpose ≡ length l.graph; edges : TurnedTo l.node (edges_of l.graph) (edges_of l.transpose.items) }

abbrev pub invariant-loop-to : goal.invariant-loop-to
invariant-loop-to l = record {
  len : vec_len l.transpose ≡ length l.graph;
  edges : AddsEdges (take l.to-index l.to-items) l.node (edges_of l.initial.transpose.items) (edges_of l.transpose.items);
}
