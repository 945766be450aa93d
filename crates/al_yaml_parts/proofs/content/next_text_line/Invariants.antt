use Rattle.std.proofs.Common.{◌≡◌, ◌≤◌, ◌-◌, length}
use Rattle.al_scalar.specs.Places.{lines_at}
use Rattle.al_yaml_tree.specs.Content.{text_line}
use Rattle.al_yaml_parts.proofs.content.next_text_line.Given as goal

abbrev pub invariant-lines : goal.invariant-lines
invariant-lines l = record {
  from : l.at ≤ l.line;
  inside : l.line ≤ length l.bytes;
  text : text_line (lines_at l.bytes l.at) ≡ text_line (lines_at l.bytes l.line);
}

abbrev pub decreases-lines : goal.decreases-lines
decreases-lines l = length l.bytes - l.line
