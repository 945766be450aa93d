-- A document (YAML 1.2.2, 9.1).
use Rattle.std.specs.Prelude.{ℕ, suc, List, length, false, if◌then◌else◌, Result, Ok}
use Rattle.al_base.specs.declared.codes.YamlCode.TheVariants as yaml
use Rattle.al_base.specs.Ascii.{ascii}
use Rattle.al_scalar.specs.Line.{Line, start, begins, is_marker, blanks_dropped, spaces_dropped}
use Rattle.al_scalar.specs.Line.{past}
use Rattle.al_scalar.specs.Places.{first_text}
use Rattle.al_scalar.specs.Taken.{fault}
use Rattle.al_scalar.specs.declared.faults.FaultAt.{FaultAt}
use Rattle.al_yaml_tree.specs.Node.{Node}
use Rattle.al_yaml_tree.specs.Limits.{unless_fault, within_limits}
use Rattle.al_yaml_tree.specs.Bytes.{byte_fault, file_lines}
use Rattle.al_yaml_tree.specs.Reading.{Start, HaveNoAlias, Reading, no_anchors, gives, of_result}
use Rattle.al_yaml_tree.specs.Reading.{Part, ◌>>=◌}
use Rattle.al_yaml_tree.specs.Content.{text_line, is_file_end, line_ended}
use Rattle.al_yaml_tree.specs.Blocks.{Slot, own_line, node_below, block_node}

-- The whole lines from the first content line on, or after it if it is the marker `---`. A
-- directive there is a fault (6.8).
abbrev pub first_line : List Line → Result (List Line) FaultAt
first_line ls =
    if begins (ascii "%") (first_text ls) then fault yaml.Directive (start ls)
    else (if is_marker (ascii "-") (first_text ls) then line_ended (past 3 ls) else Ok ls)

abbrev pub document_start : List Line → Result (List Line) FaultAt
document_start ls = first_line (text_line ls)

-- No content may follow `...`.
abbrev pub ended_after : List Line → Result (Unit {0}) FaultAt
ended_after ls =
    let left = text_line ls in
    if is_file_end left then Ok tt else fault yaml.SecondDocument (start (blanks_dropped left))

-- Only `...` may follow the root.
abbrev pub last_line : List Line → Result (Unit {0}) FaultAt
last_line ls =
    let left = spaces_dropped ls in
    if is_marker (ascii "-") (first_text ls) then fault yaml.SecondDocument (start ls)
    else (if is_marker (ascii ".") (first_text ls) then ended_after (past 3 ls)
    else (if begins (ascii "\t") (first_text left) then fault yaml.TabInIndentation (start left)
    else fault yaml.WrongIndentation (start left)))

abbrev pub document_end : List Line → Result (Unit {0}) FaultAt
document_end ls = let left = text_line ls in if is_file_end left then Ok tt else last_line left

abbrev pub root_slot : ℕ → Slot
root_slot size = record { spot = own_line; within = 0; in_mapping = false; empty = size }

-- The root: the node on the first content line, or else an empty node at the file's end.
abbrev pub root : ℕ → List Line → Reading (Part Node)
root size ls = node_below (block_node (suc size)) (root_slot size) 1 ls

abbrev pub document : ℕ → List Line → Reading Node
document size ls = do
  left ← of_result (document_start ls)
  x ← root size left
  rest ← of_result (document_end x.left)
  gives x.value

-- The tree of a file whose bytes have no fault, or its first fault.
abbrev pub document_of : List ℕ → Result Node FaultAt
document_of bs = within_limits 0 0 (document (length bs) (file_lines bs) no_anchors)

-- The tree of a file, or its first fault.
abbrev pub tree_of : List ℕ → Result Node FaultAt
tree_of bs = unless_fault (byte_fault bs) (document_of bs)

-- the starts of a file, and that none of them is an alias's
abbrev pub starts_of : List ℕ → List Start
starts_of bs = (document (length bs) (file_lines bs) no_anchors).starts

abbrev pub HasNoAlias : List ℕ → Type 0
HasNoAlias bs = HaveNoAlias (starts_of bs)
