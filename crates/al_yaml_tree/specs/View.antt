-- The tree of a `Node` of the code.
use Rattle.std.specs.Prelude.{List, [], ◌∷◌}
use Rattle.al_scalar.specs.Scalar.{Scalar}
use Rattle.al_yaml_tree.specs.Node as tree
use Rattle.al_yaml_tree.specs.declared.node.Entry.{Entry, Entry-F, fold-Entry}
use Rattle.al_yaml_tree.specs.declared.node.Node.{Node, Node-F, fold-Node}

abbrev pub nodes_of : List tree.Node → tree.Nodes
nodes_of [] = tree.no_nodes
nodes_of (n ∷ ns) = tree.item n (nodes_of ns)

abbrev pub entries_of : List (Scalar × tree.Node) → tree.Entries
entries_of [] = tree.no_entries
entries_of (e ∷ es) = tree.entry e.0 e.1 (entries_of es)

-- One level each, with what is inside already seen as its tree.
abbrev pub entry_step : Entry-F tree.Node (Scalar × tree.Node) → Scalar × tree.Node
entry_step e = (e.key, e.value)

abbrev pub node_step : Node-F tree.Node (Scalar × tree.Node) → tree.Node
node_step (Node-F.Scalar s) = tree.scalar s
node_step (Node-F.Sequence v at) = tree.sequence (nodes_of v.items) at
node_step (Node-F.Mapping v at) = tree.mapping (entries_of v.items) at
node_step (Node-F.Shared n) = n.value

abbrev pub view : Node → tree.Node
view = fold-Node tree.Node (Scalar × tree.Node) node_step entry_step

abbrev pub entry_view : Entry → Scalar × tree.Node
entry_view = fold-Entry tree.Node (Scalar × tree.Node) node_step entry_step
