use Rattle.std.proofs.Common.{rules, ◌≡◌, ℕ, None, replicate, List, Vec, length, arith}
use Rattle.std.proofs.lemmas.List.{length-map}
use Rattle.std.specs.declared.alloc.Global.{Global}
use Rattle.al_graph.specs.Graphs.{IsTranspose, edges_of}
use Rattle.al_graph.specs.Private.Finishing.{IsFinished}
use Rattle.al_graph.specs.Private.Labelling.{IsBackward}
use Rattle.al_graph.proofs.LabelLemmas.{labelling_none, labels_exact, turned_back, turned_inside}
use Rattle.al_graph.proofs.labelling.strongly_connected_components.Goals as goal

-- the nodes in the order in which a search of the transpose finishes them
backward_order : (graph back : List (Vec ℕ Global)) (order : List ℕ) → length back ≡ length graph → IsTranspose (edges_of graph) (edges_of back)
    → IsFinished (edges_of back) order → IsBackward (edges_of graph) order
backward_order graph back order len t f =
    let nodes : length (edges_of graph) ≡ length graph = length-map graph _ in
    let others : length (edges_of back) ≡ length back = length-map back _ in
    turned_back (edges_of graph) (edges_of back) order (omega (arith, nodes, others, len)) t f

pub finish_order-requires : goal.finish_order-requires
finish_order-requires c = rw c.as_slice.ensures.value (λ j k e.
    let nodes : length (edges_of c.args.graph.now) ≡ length c.args.graph.now = length-map c.args.graph.now _ in
    let others : length (edges_of c.in_ok-back.back.items) ≡ length c.in_ok-back.back.items = length-map c.in_ok-back.back.items _ in
    let below = turned_inside (edges_of c.args.graph.now) (edges_of c.in_ok-back.back.items) (omega (arith, nodes, others, c.in_ok-back.ensures.len)) c.in_ok-back.ensures.transpose j k e in
    omega (arith, below, others))

pub loop-at-init : goal.loop-at-init
loop-at-init c =
    let labels : c.in_ok-labels.labels.items ≡ replicate (length c.args.graph.now) None = search rules in
    let end : c.len-at.result ≡ length c.in_ok-order.order.items = omega (arith, c.len-at.ensures, c.in_ok-order.order.ok) in
    record { empty = search rules; labelling = labelling_none (edges_of c.args.graph.now) _ _ _ _ labels (length-map c.args.graph.now _) end }

pub label_from-requires-clause-order : goal.label_from-requires-clause-order
label_from-requires-clause-order c =
    rw c.as_slice-in-loop-at.ensures.value (backward_order c.args.graph.now c.in_ok-back.back.items c.in_ok-order.order.items
    (omega (arith, c.in_ok-back.ensures.len, c.in_ok-back.back.ok)) c.in_ok-back.ensures.transpose (rw c.as_slice.ensures.value at c.in_ok-order.ensures))

pub returns-clause-exact : goal.returns-clause-exact
returns-clause-exact c j k jn kn =
    let nodes : length (edges_of c.args.graph.now) ≡ length c.args.graph.now = length-map c.args.graph.now _ in
    let backward = backward_order c.args.graph.now c.in_ok-back.back.items c.in_ok-order.order.items
    (omega (arith, c.in_ok-back.ensures.len, c.in_ok-back.back.ok)) c.in_ok-back.ensures.transpose (rw c.as_slice.ensures.value at c.in_ok-order.ensures) in
    let last : c.loop-at.at ≡ 0 = search rules in
    labels_exact (edges_of c.args.graph.now) c.in_ok-order.order.items c.loop-at.labels.items backward (rw last at c.loop-at.invariant.labelling) j k
    (omega (arith, jn, nodes)) (omega (arith, kn, nodes))
