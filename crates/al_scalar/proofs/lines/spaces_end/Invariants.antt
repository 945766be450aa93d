use Rattle.std.proofs.Common.{length, ◌-◌, ◌+◌, ◌≡◌, ◌≤◌}
use Rattle.al_scalar.specs.Places.{lines_at}
use Rattle.al_scalar.specs.LineEnds.{cells_between, with_cells_before, AreSpaces}
use Rattle.al_scalar.proofs.lines.spaces_end.Given as goal

abbrev pub invariant-loop-i : goal.invariant-loop-i
invariant-loop-i l = record {
  from : l.at ≤ l.i;
  inside : l.i ≤ length l.bytes;
  most : l.i ≤ l.at + l.most;
  spaces : AreSpaces (cells_between l.bytes l.at l.i);
  lines : lines_at l.bytes l.at ≡ with_cells_before (cells_between l.bytes l.at l.i) (lines_at l.bytes l.i);
}

abbrev pub decreases-loop-i : goal.decreases-loop-i
decreases-loop-i l = length l.bytes - l.i
