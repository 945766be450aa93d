use Rattle.std.proofs.Common.{rules, ◌≡◌, ◌++◌, ◌∷◌, [], None, is_none, true, false, refl, sym}
use Rattle.std.proofs.lemmas.List.{get_or_read}
use Rattle.al_graph.proofs.LabelLemmas.{node_again, node_first}
use Rattle.al_graph.proofs.labelling.label_node.Goals as goal

pub returns-in_ok-push : goal.returns-in_ok-push
returns-in_ok-push c =
    let free : is_none c.index.result.now ≡ true = search rules in
    let items : c.push.new.self.items ≡ c.args.waiting.now.items ++ c.args.node ∷ [] = search rules in
    node_first c.args.label c.args.labels.now.items _ c.args.node c.args.waiting.now.items c.push.new.self.items c.index.result.now c.requires
    (sym (get_or_read c.args.labels.now.items c.args.node c.index.result.now c.requires c.index.ensures None)) free refl items

pub returns-else-is_none : goal.returns-else-is_none
returns-else-is_none c =
    let free : is_none c.index.result.now ≡ false = search rules in
    node_again c.args.label c.args.labels.now.items c.args.node c.args.waiting.now.items c.index.result.now
    (sym (get_or_read c.args.labels.now.items c.args.node c.index.result.now c.requires c.index.ensures None)) free
