use Rattle.std.proofs.Common.{ℕ}
use Rattle.al_graph.specs.Graphs.{edges_of}
use Rattle.al_graph.specs.Private.Marks.{Marked}
use Rattle.al_graph.specs.Private.Finishing.{IsSearch, cost, frames_of}
use Rattle.al_graph.proofs.finishing.finish_from.Given as goal

abbrev pub invariant-loop-frame : goal.invariant-loop-frame
invariant-loop-frame l = record {
  search : IsSearch (edges_of l.graph) l.seen.items (frames_of l.frames.items) l.order.items;
  kept : (k : ℕ) → Marked l.fn.seen.items k → Marked l.seen.items k;
  from_seen : Marked l.seen.items l.from;
}

abbrev pub decreases-loop-frame : goal.decreases-loop-frame
decreases-loop-frame l = cost (edges_of l.graph) l.seen.items (frames_of l.frames.items)
