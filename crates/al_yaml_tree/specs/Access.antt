-- The parts of a node's tree, as lists of the library.
use Rattle.std.specs.Prelude.{List, [], ◌∷◌, Option, Some, None}
use Rattle.al_scalar.specs.Scalar.{Scalar}
use Rattle.al_yaml_tree.specs.Node.{Node, Nodes, Entries, scalar, sequence, mapping, no_nodes, item}
use Rattle.al_yaml_tree.specs.Node.{no_entries, entry}

abbrev pub nodes : Nodes → List Node
nodes no_nodes = []
nodes (item n ns) = n ∷ nodes ns

-- the entries, each a key and a value
abbrev pub entries : Entries → List (Scalar × Node)
entries no_entries = []
entries (entry k v es) = (k, v) ∷ entries es

abbrev pub scalar_in : Node → Option Scalar
scalar_in (scalar s) = Some s
scalar_in _ = None

abbrev pub sequence_in : Node → Option (List Node)
sequence_in (sequence ns at) = Some (nodes ns)
sequence_in _ = None

abbrev pub mapping_in : Node → Option (List (Scalar × Node))
mapping_in (mapping es at) = Some (entries es)
mapping_in _ = None
