-- The bound on nodes and on their parts, as a law: reading the file with any greater one gives the
-- same.
use Rattle.std.specs.Prelude.{◌≡◌, ◌<◌, ℕ, List, length, Result}
use Rattle.al_scalar.specs.Line.{Line}
use Rattle.al_scalar.specs.declared.faults.FaultAt.{FaultAt}
use Rattle.al_yaml_tree.specs.Node.{Node}
use Rattle.al_yaml_tree.specs.Limits.{unless_fault, within_limits}
use Rattle.al_yaml_tree.specs.Bytes.{byte_fault, file_lines}
use Rattle.al_yaml_tree.specs.Reading.{Reading, no_anchors, gives, of_result, ◌>>=◌}
use Rattle.al_yaml_tree.specs.Blocks.{node_below, block_node}
use Rattle.al_yaml_tree.specs.Document.{document_start, document_end, root_slot, document, tree_of}

-- `document`, with another bound than the file's length plus one
abbrev pub document_within : ℕ → ℕ → List Line → Reading Node
document_within bound size ls = do
  left ← of_result (document_start ls)
  x ← node_below (block_node bound) (root_slot size) 1 left
  rest ← of_result (document_end x.left)
  gives x.value

-- `tree_of`, with another bound than the file's length plus one
abbrev pub tree_within : ℕ → List ℕ → Result Node FaultAt
tree_within bound bs =
    unless_fault (byte_fault bs) (within_limits 0 0
    (document_within bound (length bs) (file_lines bs) no_anchors))

-- With any bound greater than the file's length, all starts of nodes, the anchors, and the root or
-- the first fault are those that the definition gives.
abbrev pub BoundReadsAll : Type 0
BoundReadsAll = (bound : ℕ) (bs : List ℕ) → length bs < bound
    → document_within bound (length bs) (file_lines bs) no_anchors
    ≡ document (length bs) (file_lines bs) no_anchors

-- With any bound greater than the file's length, a file has the same tree, or the same fault.
abbrev pub BoundGivesTree : Type 0
BoundGivesTree = (bound : ℕ) (bs : List ℕ) → length bs < bound → tree_within bound bs ≡ tree_of bs
