use Rattle.std.proofs.Common.{◌≡◌, []}
use Rattle.al_graph.specs.Graphs.{edges_of}
use Rattle.al_graph.specs.Private.Labelling.{IsLabelling}
use Rattle.al_graph.proofs.labelling.strongly_connected_components.Given as goal

abbrev pub invariant-loop-at : goal.invariant-loop-at
invariant-loop-at l = record {
  empty : l.waiting.items ≡ [];
  labelling : IsLabelling (edges_of l.graph) l.order.items l.labels.items l.at [];
}
