use Rattle.std.proofs.Common.{rules, ap, ◌+◌, length-append, take, ◌≡◌, ◌∙◌, [], None, is_some, true, get_or, length, arith, refl, sym}
use Rattle.std.proofs.lemmas.List.{get_or_read, length-map, nil_from_length, take_all}
use Rattle.al_graph.specs.Graphs.{edges_of}
use Rattle.al_graph.proofs.Edges.{edge_inside, edges_at}
use Rattle.al_graph.proofs.LabelLemmas.{labelling_next, labels_next, labelling_start, no_waiting, skipped, node_inside, ordered_inside}
use Rattle.al_graph.proofs.labelling.label_from.Goals as goal

pub index-requires : goal.index-requires
index-requires c =
    let below = ordered_inside (edges_of c.args.graph.now) c.args.order.now c.args.labels.now.items c.args.at _ c.requires.at_in c.requires.order c.requires.labels in
    omega (arith, below)

pub returns-then-is_some-clause-labels : goal.returns-then-is_some-clause-labels
returns-then-is_some-clause-labels c =
    let below = ordered_inside (edges_of c.args.graph.now) c.args.order.now c.args.labels.now.items c.args.at _ c.requires.at_in c.requires.order c.requires.labels in
    let some : is_some c.index.result.now ≡ true = search rules in
    skipped (edges_of c.args.graph.now) c.args.order.now c.args.labels.now.items c.args.at c.index.result.now
    (sym (get_or_read c.args.labels.now.items (get_or c.args.order.now c.args.at 0) c.index.result.now below c.index.ensures None)) some c.requires.labels

pub label_node-requires : goal.label_node-requires
label_node-requires c =
    ordered_inside (edges_of c.args.graph.now) c.args.order.now c.args.labels.now.items c.args.at _ c.requires.at_in c.requires.order c.requires.labels

pub loop-node-init : goal.loop-node-init
loop-node-init c =
    labelling_start (edges_of c.args.graph.now) c.args.order.now c.args.labels.now.items c.label_node.new.labels.items c.args.at
    (get_or c.args.order.now c.args.at 0) c.args.waiting.now.items c.label_node.new.waiting.items
    c.requires.at_in refl c.requires.empty c.requires.labels c.in_ok-label_node.ensures

pub bounds-graph-node : goal.bounds-graph-node
bounds-graph-node c =
    node_inside (edges_of c.args.graph.now) c.args.order.now c.loop-node.labels.items c.args.at _ _ _ _ (length-map c.args.graph.now _) c.in-Some.ensures.items c.loop-node.invariant

pub offset_bounds-graph-node : goal.offset_bounds-graph-node
offset_bounds-graph-node c =
    let below = node_inside (edges_of c.args.graph.now) c.args.order.now c.loop-node.labels.items c.args.at _ _ _ _ (length-map c.args.graph.now _) c.in-Some.ensures.items c.loop-node.invariant in
    search rules

pub label_node-requires-in-loop-next : goal.label_node-requires-in-loop-next
label_node-requires-in-loop-next c =
    let nodes : length (edges_of c.args.graph.now) ≡ length c.args.graph.now = length-map c.args.graph.now _ in
    let below = node_inside (edges_of c.args.graph.now) c.args.order.now c.loop-node.labels.items c.args.at _ _ _ _ nodes c.in-Some.ensures.items c.loop-node.invariant in
    let next = edge_inside c.args.graph.now c.requires.edges_in c.in-Some.node c.loop-next.next-index c.index-graph-node.result c.as_slice-next-items.result.now
    below c.index-graph-node.is c.as_slice-next-items.ensures.value c.loop-next-test.true in
    omega (arith, next, nodes, c.loop-node.invariant.size, c.loop-next.invariant.size)

pub loop-next-preserved : goal.loop-next-preserved
loop-next-preserved c =
    labels_next c.as_slice-next-items.result.now c.loop-next.next-index c.args.at _ _ _ _ _ _ c.loop-next-test.true c.loop-next.invariant c.in_ok-label_node-2.ensures

pub loop-node-preserved : goal.loop-node-preserved
loop-node-preserved c =
    let nodes : length (edges_of c.args.graph.now) ≡ length c.args.graph.now = length-map c.args.graph.now _ in
    let below = node_inside (edges_of c.args.graph.now) c.args.order.now c.loop-node.labels.items c.args.at _ _ _ _ nodes c.in-Some.ensures.items c.loop-node.invariant in
    let same : c.as_slice-next-items.result.now ≡ get_or (edges_of c.args.graph.now) c.in-Some.node [] = c.as_slice-next-items.ensures.value
    ∙ sym (edges_at c.args.graph.now c.in-Some.node c.index-graph-node.result below c.index-graph-node.is) in
    let all : take c.loop-next.next-index c.as_slice-next-items.result.now ≡ get_or (edges_of c.args.graph.now) c.in-Some.node [] =
    take_all c.loop-next.next-index c.as_slice-next-items.result.now (omega (arith, c.loop-next-test.false)) ∙ same in
    labelling_next (edges_of c.args.graph.now) c.args.order.now c.loop-node.labels.items c.loop-next.labels.items c.args.at
    c.in-Some.node c.loop-node.waiting.items _ c.loop-next.waiting.items
    (λ j k e. let next = c.requires.edges_in j k e in omega (arith, next, nodes)) c.requires.order c.requires.at_in
    c.in-Some.ensures.items c.loop-node.invariant (rw all at c.loop-next.invariant)

pub loop-node-smaller : goal.loop-node-smaller
loop-node-smaller c =
    let items : length c.loop-node.waiting.items ≡ length c.pop.new.self.items + 1 = ap length c.in-Some.ensures.items ∙ length-append c.pop.new.self.items _ in
    omega (arith, items, c.loop-next.invariant.count)

pub returns-clause-emptied : goal.returns-clause-emptied
returns-clause-emptied c = nil_from_length c.pop.new.self.items (search rules)

pub returns-clause-labels : goal.returns-clause-labels
returns-clause-labels c =
    let none : length c.loop-node.waiting.items ≡ 0 = search rules in
    no_waiting (edges_of c.args.graph.now) c.args.order.now c.loop-node.labels.items c.args.at c.loop-node.waiting.items none c.loop-node.invariant
