use Rattle.std.proofs.Common.{length, ◌-◌, ◌≡◌, ◌≤◌}
use Rattle.al_scalar.specs.Places.{lines_at}
use Rattle.al_scalar.specs.Block.{found_indent}
use Rattle.al_scalar.proofs.block.find_indent.Given as goal

abbrev pub invariant-blank_lines : goal.invariant-blank_lines
invariant-blank_lines l = record {
  inside : l.i ≤ length l.bytes;
  found : found_indent l.within (lines_at l.bytes l.at) ≡ found_indent l.within (lines_at l.bytes l.i);
}

abbrev pub decreases-blank_lines : goal.decreases-blank_lines
decreases-blank_lines l = length l.bytes - l.i
