use Rattle.std.proofs.Common.{arith}
use Rattle.al_graph.proofs.Edges.{edge_inside}
use Rattle.al_graph.proofs.turning.edge_counts.Goals as goal

pub index-requires : goal.index-requires
index-requires c =
    let below = edge_inside c.args.graph.now c.requires c.loop-nodes.nodes-index c.loop-node.node-index c.nodes-item.result c.deref-node-items.result.now
    c.loop-nodes-test.true c.nodes-item.is c.deref-node-items.ensures.value c.loop-node-test.true in
    omega (arith, below, c.loop-node.invariant)

pub index_mut-requires : goal.index_mut-requires
index_mut-requires c =
    let below = edge_inside c.args.graph.now c.requires c.loop-nodes.nodes-index c.loop-node.node-index c.nodes-item.result c.deref-node-items.result.now
    c.loop-nodes-test.true c.nodes-item.is c.deref-node-items.ensures.value c.loop-node-test.true in
    omega (arith, below, c.loop-node.invariant)
