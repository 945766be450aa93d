use Rattle.std.proofs.Common.{◌≡◌, ◌<◌, [], ℕ}
use Rattle.al_graph.specs.Graphs.{edges_of}
use Rattle.al_graph.specs.Private.Marks.{Marked}
use Rattle.al_graph.specs.Private.Finishing.{IsSearch}
use Rattle.al_graph.proofs.finishing.finish_order.Given as goal

abbrev pub invariant-loop-node : goal.invariant-loop-node
invariant-loop-node l = record {
  search : IsSearch (edges_of l.graph) l.seen.items [] l.order.items;
  empty : l.frames.items ≡ [];
  before : (k : ℕ) → k < l.node → Marked l.seen.items k;
}
