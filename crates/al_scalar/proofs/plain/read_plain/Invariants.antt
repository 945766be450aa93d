use Rattle.std.proofs.Common.{length, ◌-◌, ◌≡◌, ◌≤◌}
use Rattle.al_scalar.specs.Taken.{before}
use Rattle.al_scalar.specs.Plain.{plain}
use Rattle.al_scalar.specs.Places.{lines_at}
use Rattle.al_scalar.specs.Private.PlainLines.{context_of, after_part}
use Rattle.al_scalar.proofs.plain.read_plain.Given as goal

abbrev pub invariant-text_lines : goal.invariant-text_lines
invariant-text_lines l = record {
  from : l.at ≤ l.end;
  inside : l.end ≤ length l.bytes;
  read : plain (context_of l.context) (lines_at l.bytes l.at) ≡ before l.text (after_part (context_of l.context) l.bytes l.end);
}

abbrev pub decreases-text_lines : goal.decreases-text_lines
decreases-text_lines l = length l.bytes - l.end
