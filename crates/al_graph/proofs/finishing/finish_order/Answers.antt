use Rattle.std.proofs.Common.{◌≡◌, length, arith}
use Rattle.std.proofs.lemmas.List.{length-map}
use Rattle.al_graph.specs.Graphs.{edges_of}
use Rattle.al_graph.proofs.SearchLemmas.{search_done}
use Rattle.al_graph.proofs.finishing.finish_order.Goals as goal

pub returns : goal.returns
returns c =
    let nodes : length (edges_of c.args.graph.now) ≡ length c.args.graph.now = length-map c.args.graph.now _ in
    search_done (edges_of c.args.graph.now) c.loop-node.seen.items c.loop-node.order.items c.loop-node.node
    (omega (arith, nodes, c.loop-node-test.false)) c.loop-node.invariant.before c.loop-node.invariant.search
