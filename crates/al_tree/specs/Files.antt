-- The kinds of trees, and the faults of their keys and values.
use Rattle.std.specs.Prelude.{List, codes}
use Rattle.al_base.specs.FaultLists.{fault_list}
use Rattle.al_base.specs.declared.faults.Fault.{Fault}
use Rattle.al_scalar.specs.Scalar.{Scalar}
use Rattle.al_yaml_tree.specs.Node.{Node}
use Rattle.al_yaml_tree.specs.View.{view}
use Rattle.al_tree.specs.Faults.{root_faults}
use Rattle.al_tree.specs.Values.{entries_at}
use Rattle.al_tree.specs.declared.table.Shape.{Shape}
use Rattle.al_tree.specs.declared.table.Shape.TheVariants as shape
use Rattle.al_tree.specs.declared.files.FileKind.{FileKind}
use Rattle.al_tree.specs.declared.files.FileKind.TheVariants as kind
use Rattle.al_tree.specs.declared.files.Tree.{Tree}
use Rattle.al_tree.specs.declared.files.Tree.TheVariants as tree

abbrev pub root_of : Tree → Node
root_of (tree.Workflow w) = view w.root
root_of (tree.Action a) = view a.root

abbrev pub kind_in : Tree → FileKind
kind_in (tree.Workflow w) = kind.Workflow
kind_in (tree.Action a) = kind.Action

-- the shape that a file's root should have
abbrev pub shape_of : FileKind → Shape
shape_of kind.Workflow = shape.Workflow
shape_of kind.Action = shape.Action

-- the jobs of a workflow, by its root
abbrev pub jobs_of : Node → List (Scalar × Node)
jobs_of = entries_at (codes "jobs")

-- the faults of keys and values as a report lists them
abbrev pub key_faults : FileKind → Node → List Fault
key_faults kind root = fault_list (root_faults (shape_of kind) root)
