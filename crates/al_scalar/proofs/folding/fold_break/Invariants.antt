use Rattle.std.proofs.Common.{length, ◌-◌, ◌≡◌, ◌≤◌, ◌<◌, ◌++◌}
use Rattle.al_scalar.specs.Places.{lines_at}
use Rattle.al_scalar.specs.LineEnds.{later}
use Rattle.al_scalar.specs.Private.PlainLines.{empty_ends, break_left}
use Rattle.al_scalar.specs.Private.Folding.{solid_lines}
use Rattle.al_scalar.proofs.folding.fold_break.Given as goal

abbrev pub invariant-empty_lines : goal.invariant-empty_lines
invariant-empty_lines l = record {
  inside : l.start ≤ length l.bytes;
  after : l.end < l.start;
  lines : solid_lines (later (lines_at l.bytes l.end)) ≡ solid_lines (lines_at l.bytes l.start);
  text : l.text ++ break_left l.folded l.end (empty_ends (lines_at l.bytes l.start))
      ≡ l.initial.text ++ break_left l.escaped l.end (empty_ends (later (lines_at l.bytes l.end)));
}

abbrev pub decreases-empty_lines : goal.decreases-empty_lines
decreases-empty_lines l = length l.bytes - l.start
