use Rattle.std.proofs.Common.{◌+◌, length, sum_by, take}
use Rattle.al_graph.specs.Graphs.{edges_of}
use Rattle.al_graph.specs.Private.Labelling.{IsLabelling, Labels, free_one}
use Rattle.al_graph.proofs.labelling.label_from.Given as goal

abbrev pub invariant-loop-node : goal.invariant-loop-node
invariant-loop-node l = IsLabelling (edges_of l.graph) l.order l.labels.items l.at l.waiting.items

abbrev pub decreases-loop-node : goal.decreases-loop-node
decreases-loop-node l = sum_by free_one l.labels.items + length l.waiting.items

-- what the edges so far have led to is labelled
abbrev pub invariant-loop-next : goal.invariant-loop-next
invariant-loop-next l =
    Labels (take l.next-index l.next-items) l.at l.initial.labels.items l.labels.items l.initial.waiting.items l.waiting.items
