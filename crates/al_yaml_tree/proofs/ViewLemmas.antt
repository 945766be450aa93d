-- The view of a node, by its variant.
use Rattle.std.proofs.Common.{◌≡◌, List, [], ◌∷◌, refl, ap, map, sym, ◌∙◌, Vec}
use Rattle.std.specs.declared.alloc.Global.{Global}
use Rattle.al_base.specs.declared.faults.Span.{Span}
use Rattle.al_scalar.specs.Scalar.{Scalar}
use Rattle.al_yaml_tree.specs.Access.{entries, nodes}
use Rattle.al_yaml_tree.specs.Node as tree
use Rattle.al_yaml_tree.specs.View.{entries_of, entry_step, entry_view, node_step, nodes_of, view}
use Rattle.al_yaml_tree.specs.declared.node.Entry.{Entry, fold_out-Entry}
use Rattle.al_yaml_tree.specs.declared.node.Node.TheOpen.{Node-F}
use Rattle.al_yaml_tree.specs.declared.node.Node.TheVariants.{Mapping, Sequence, rolls-Mapping, rolls-Sequence}
use Rattle.al_yaml_tree.specs.declared.node.Node.{Node, fold-roll-Node}

pub nodes_again : (ns : List tree.Node) → nodes (nodes_of ns) ≡ ns
nodes_again [] = refl
nodes_again (n ∷ ns) = ap (λ ms. n ∷ ms) (nodes_again ns)

pub entries_again : (es : List (Scalar × tree.Node)) → entries (entries_of es) ≡ es
entries_again [] = refl
entries_again (e ∷ es) = ap (λ fs. e ∷ fs) (entries_again es)

-- The view of an entry is a pair of a key and a value.
pub entry_parts : (e : Entry) → entry_view e ≡ (e.key, view e.value)
entry_parts e = fold_out-Entry tree.Node (Scalar × tree.Node) node_step entry_step e

pub view_sequence : (n : Node) (v : Vec Node Global) (at : Span) → n ≡ Sequence v at → view n ≡ tree.sequence (nodes_of (map view v.items)) at
view_sequence n v at e =
    ap view (e ∙ sym (rolls-Sequence v at)) ∙ fold-roll-Node tree.Node (Scalar × tree.Node) node_step entry_step (Node-F.Sequence v at)

pub view_mapping : (n : Node) (v : Vec Entry Global) (at : Span) → n ≡ Mapping v at → view n ≡ tree.mapping (entries_of (map entry_view v.items)) at
view_mapping n v at e =
    ap view (e ∙ sym (rolls-Mapping v at)) ∙ fold-roll-Node tree.Node (Scalar × tree.Node) node_step entry_step (Node-F.Mapping v at)
