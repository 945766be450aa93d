use Rattle.std.proofs.Common.{length, ◌-◌, ◌≡◌, ◌≤◌}
use Rattle.al_scalar.specs.Places.{lines_at}
use Rattle.al_scalar.specs.Private.PlainLines.{text_lines}
use Rattle.al_scalar.proofs.plain.text_line.Given as goal

abbrev pub invariant-blank_lines : goal.invariant-blank_lines
invariant-blank_lines l = record {
  from : l.from ≤ l.start;
  inside : l.start ≤ length l.bytes;
  lines : text_lines (lines_at l.bytes l.from) ≡ text_lines (lines_at l.bytes l.start);
}

abbrev pub decreases-blank_lines : goal.decreases-blank_lines
decreases-blank_lines l = length l.bytes - l.start
