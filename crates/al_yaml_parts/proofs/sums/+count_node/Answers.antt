use Rattle.std.proofs.Common.{◌++◌, ◌∙◌, ap, map, sym}
use Rattle.al_yaml_parts.specs.Private.Sums.{inside, members, uncounted_view, within}
use Rattle.al_yaml_tree.specs.View.{entry_view, view}
use Rattle.al_yaml_tree.proofs.ViewLemmas.{entries_again, nodes_again, view_mapping, view_sequence}
use Rattle.al_yaml_parts.proofs.sums.+count_node.Goals as goal

pub returns-in_ok-leave_items-in-Sequence-clause-left : goal.returns-in_ok-leave_items-in-Sequence-clause-left
returns-in_ok-leave_items-in-Sequence-clause-left t c =
    let before = map uncounted_view c.args.left.now.items in
    let levels = c.of_collection-own.result.levels in
    c.in_ok-leave_items-in-Sequence.ensures
    ∙ ap (λ ns. before ++ within levels (map view ns)) c.as_slice.ensures.value
    ∙ ap (λ ns. before ++ within levels ns)
    (sym (nodes_again (map view c.in-Sequence.items.items)) ∙ sym (ap inside (view_sequence c.args.node.now c.in-Sequence.items c.in-Sequence.span c.in-Sequence.is)))

pub returns-in_ok-leave_entries-in-Mapping-clause-left : goal.returns-in_ok-leave_entries-in-Mapping-clause-left
returns-in_ok-leave_entries-in-Mapping-clause-left t c =
    let before = map uncounted_view c.args.left.now.items in
    let levels = c.of_collection-own-in-Mapping.result.levels in
    c.in_ok-leave_entries-in-Mapping.ensures
    ∙ ap (λ es. before ++ within levels (members (map entry_view es))) c.as_slice-in-Mapping.ensures.value
    ∙ ap (λ ns. before ++ within levels ns)
    (sym (ap members (entries_again (map entry_view c.in-Mapping.entries.items)))
    ∙ sym (ap inside (view_mapping c.args.node.now c.in-Mapping.entries c.in-Mapping.span c.in-Mapping.is)))
