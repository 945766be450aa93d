use Rattle.std.proofs.Common.{ap, ◌∙◌, sym, Some, map}
use Rattle.al_yaml_tree.specs.View.{entry_view}
use Rattle.al_yaml_tree.specs.Access.{mapping_in}
use Rattle.al_yaml_tree.proofs.ViewLemmas.{entries_again, view_mapping}
use Rattle.al_yaml_tree.proofs.node.Node.mapping.Goals as goal

pub returns-in-Mapping : goal.returns-in-Mapping
returns-in-Mapping c =
    ap (λ es. Some (map entry_view es)) c.as_slice.ensures.value ∙ ap Some (sym (entries_again (map entry_view c.in-Mapping.entries.items)))
    ∙ sym (ap mapping_in (view_mapping c.unshared.result.now c.in-Mapping.entries c.in-Mapping.span c.in-Mapping.is)) ∙ ap mapping_in c.unshared.ensures.view
