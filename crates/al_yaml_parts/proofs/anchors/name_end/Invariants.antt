use Rattle.std.proofs.Common.{◌-◌, ◌++◌, ◌≡◌, ◌≤◌, length}
use Rattle.al_scalar.specs.Places.{lines_at, text_at}
use Rattle.al_scalar.specs.LineEnds.{cells_between, with_cells_before}
use Rattle.al_yaml_tree.specs.Content.{anchor_cells}
use Rattle.al_yaml_parts.proofs.anchors.name_end.Given as goal

abbrev pub invariant-name : goal.invariant-name
invariant-name l = record {
  from : l.at ≤ l.i;
  inside : l.i ≤ length l.bytes;
  cells : anchor_cells (text_at l.bytes l.at) ≡ cells_between l.bytes l.at l.i ++ anchor_cells (text_at l.bytes l.i);
  lines : lines_at l.bytes l.at ≡ with_cells_before (cells_between l.bytes l.at l.i) (lines_at l.bytes l.i);
}

abbrev pub decreases-name : goal.decreases-name
decreases-name l = length l.bytes - l.i
