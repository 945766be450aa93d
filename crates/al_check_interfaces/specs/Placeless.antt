-- Trees without spans, and the laws that an interface depends neither on spans nor, under an input,
-- on what calls don't see.
use Rattle.std.specs.Prelude.{◌≡◌, codes, map}
use Rattle.al_scalar.specs.Line.{Cell}
use Rattle.al_scalar.specs.Scalar.{Scalar}
use Rattle.al_base.specs.Spans.{span}
use Rattle.al_yaml_tree.specs.Node.{Node, Nodes, Entries, scalar, sequence, mapping, no_nodes, item}
use Rattle.al_yaml_tree.specs.Node.{no_entries, entry}
use Rattle.al_tree.specs.Keys.{key_of}
use Rattle.al_tree.specs.Values.{value_at}
use Rattle.al_tree.specs.declared.files.FileKind.{FileKind}
use Rattle.al_check_interfaces.specs.Interfaces.{interface_of, parameter}
use Rattle.al_check_interfaces.specs.declared.signatures.Declaring.{Declaring}

abbrev pub placeless_scalar : Scalar → Scalar
placeless_scalar s =
    record {
      style = s.style;
      class = s.class;
      cells = map (λ (c : Cell). (c.0, 0)) s.cells;
      span = span 0 0;
    }

-- a tree with all nodes and texts moved to the offset 0
abbrev mutual
  pub placeless : Node → Node
  placeless (scalar s) = scalar (placeless_scalar s)
  placeless (sequence ns at) = sequence (placeless_items ns) (span 0 0)
  placeless (mapping es at) = mapping (placeless_entries es) (span 0 0)

  pub placeless_items : Nodes → Nodes
  placeless_items no_nodes = no_nodes
  placeless_items (item n ns) = item (placeless n) (placeless_items ns)

  pub placeless_entries : Entries → Entries
  placeless_entries no_entries = no_entries
  placeless_entries (entry k v es) = entry (placeless_scalar k) (placeless v) (placeless_entries es)

-- trees that differ only in spans have the same interface
abbrev pub ShowsNoPlaces : Type 0
ShowsNoPlaces =
    (kind : FileKind) (root : Node) → interface_of kind (placeless root) ≡ interface_of kind root

-- entries that differ only in other keys, such as a description, declare the same parameter
abbrev pub ShowsNothingElse : Type 0
ShowsNothingElse = (by : Declaring) (e f : Scalar × Node) → key_of e ≡ key_of f
    → value_at (codes "required") e.1 ≡ value_at (codes "required") f.1
    → value_at (codes "default") e.1 ≡ value_at (codes "default") f.1
    → value_at (codes "type") e.1 ≡ value_at (codes "type") f.1
    → parameter by e ≡ parameter by f
