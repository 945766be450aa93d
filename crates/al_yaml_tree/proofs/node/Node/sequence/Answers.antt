use Rattle.std.proofs.Common.{ap, ◌∙◌, sym, Some, map}
use Rattle.al_yaml_tree.specs.View.{view}
use Rattle.al_yaml_tree.specs.Access.{sequence_in}
use Rattle.al_yaml_tree.proofs.ViewLemmas.{nodes_again, view_sequence}
use Rattle.al_yaml_tree.proofs.node.Node.sequence.Goals as goal

pub returns-in-Sequence : goal.returns-in-Sequence
returns-in-Sequence c =
    ap (λ ns. Some (map view ns)) c.as_slice.ensures.value ∙ ap Some (sym (nodes_again (map view c.in-Sequence.items.items)))
    ∙ sym (ap sequence_in (view_sequence c.unshared.result.now c.in-Sequence.items c.in-Sequence.span c.in-Sequence.is)) ∙ ap sequence_in c.unshared.ensures.view
