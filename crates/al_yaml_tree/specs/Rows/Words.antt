-- Terms of worked rows for what was read.
use Rattle.std.specs.Prelude.{ℕ, List, [], ◌∷◌, Option, Some, None, Result, Ok, Err}
use Rattle.al_base.specs.declared.codes.YamlCode.{YamlCode}
use Rattle.al_scalar.specs.declared.faults.FaultAt.{FaultAt}
use Rattle.al_scalar.specs.declared.styles.Class.{Class}
use Rattle.al_yaml_tree.specs.Node.{Node, Nodes, scalar, sequence, mapping, no_nodes, item, entry}
use Rattle.al_yaml_tree.specs.Document.{tree_of}

abbrev pub fault_at : YamlCode → ℕ → Option FaultAt
fault_at code at = Some (record { code = code; at = at })

-- the fault, or none for a tree
abbrev pub fault_in : Result Node FaultAt → Option FaultAt
fault_in (Ok n) = None
fault_in (Err f) = Some f

-- the fault of a file
abbrev pub refusal : List ℕ → Option FaultAt
refusal bs = fault_in (tree_of bs)

abbrev pub item_classes : Nodes → List Class
item_classes no_nodes = []
item_classes (item (scalar s) ns) = s.class ∷ item_classes ns
item_classes (item n ns) = item_classes ns

abbrev pub list_classes : Node → List Class
list_classes (sequence ns at) = item_classes ns
list_classes n = []

-- the classes of the items of the first value
abbrev pub classes_of : Result Node FaultAt → List Class
classes_of (Ok (mapping (entry k v es) at)) = list_classes v
classes_of r = []
