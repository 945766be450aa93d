use Rattle.std.proofs.Common.{rules, ◌≡◌, ◌∙◌, ◌<◌, ◌++◌, ◌∷◌, [], arith, get_or, length, subst, sym}
use Rattle.std.proofs.lemmas.List.{take_all}
use Rattle.al_graph.specs.Graphs.{edges_of}
use Rattle.al_graph.proofs.Edges.{edge_inside, edges_at}
use Rattle.al_graph.proofs.TurnLemmas.{AddsEdges, edge_pushed, edges_next, turned_end, turned_next}
use Rattle.al_graph.proofs.turning.transpose.Goals as goal

pub index_mut-requires : goal.index_mut-requires
index_mut-requires c =
    let below = edge_inside c.args.graph.now c.requires c.loop-node.node c.loop-to.to-index c.index-graph-node.result c.deref-to-items.result.now
    c.loop-node-test.true c.index-graph-node.is c.deref-to-items.ensures.value c.loop-to-test.true in
    omega (arith, below, c.loop-to.invariant.len)

pub loop-to-preserved : goal.loop-to-preserved
loop-to-preserved c =
    let nodes = c.deref-to-items.result.now in
    let to = get_or nodes c.loop-to.to-index 0 in
    let below = edge_inside c.args.graph.now c.requires c.loop-node.node c.loop-to.to-index c.index-graph-node.result nodes
    c.loop-node-test.true c.index-graph-node.is c.deref-to-items.ensures.value c.loop-to-test.true in
    let here : to < length c.loop-to.transpose.items = omega (arith, below, c.loop-to.invariant.len, c.loop-to.transpose.ok) in
    let items : c.push-in-loop-to.new.self.items ≡ c.index_mut.result.now.items ++ c.loop-node.node ∷ [] = search rules in
    record {
      len = c.loop-to.invariant.len;
      edges = edges_next nodes c.loop-to.to-index c.loop-node.node _ _ _ c.loop-to-test.true c.loop-to.invariant.edges
          (edge_pushed c.loop-to.transpose.items to c.loop-node.node c.index_mut.result.now c.push-in-loop-to.new.self here c.index_mut.ensures.value items);
    }

pub loop-node-preserved : goal.loop-node-preserved
loop-node-preserved c =
    let nodes = c.deref-to-items.result.now in
    let same : nodes ≡ get_or (edges_of c.args.graph.now) c.loop-node.node [] = c.deref-to-items.ensures.value
    ∙ sym (edges_at c.args.graph.now c.loop-node.node c.index-graph-node.result c.loop-node-test.true c.index-graph-node.is) in
    let added = subst (λ ns. AddsEdges ns c.loop-node.node (edges_of c.loop-node.transpose.items) (edges_of c.loop-to.transpose.items))
    (take_all c.loop-to.to-index nodes (omega (arith, c.loop-to-test.false))) c.loop-to.invariant.edges in
    record {
      len = c.loop-to.invariant.len;
      edges = turned_next (edges_of c.args.graph.now) (edges_of c.loop-node.transpose.items) (edges_of c.loop-to.transpose.items) c.loop-node.node nodes
          same c.loop-node.invariant.edges added;
    }

pub returns-clause-transpose : goal.returns-clause-transpose
returns-clause-transpose c =
    turned_end c.args.graph.now (edges_of c.loop-node.transpose.items) c.loop-node.node (omega arith) c.loop-node.invariant.edges
