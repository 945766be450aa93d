use Rattle.std.proofs.Common.{length, ◌-◌, ◌≡◌, ◌≤◌}
use Rattle.al_scalar.specs.Plain.{plain_part}
use Rattle.al_scalar.specs.Places.{lines_at, text_at}
use Rattle.al_scalar.specs.LineEnds.{cells_between, SameLine}
use Rattle.al_scalar.specs.Private.PlainLines.{context_of}
use Rattle.al_scalar.proofs.PlainLemmas.{in_front}
use Rattle.al_scalar.proofs.plain.plain_end.Given as goal

abbrev pub invariant-words : goal.invariant-words
invariant-words l = record {
  from : l.at ≤ l.end;
  inside : l.end ≤ length l.bytes;
  part : plain_part (context_of l.context) l.after_blank (text_at l.bytes l.at)
      ≡ in_front (cells_between l.bytes l.at l.end) (plain_part (context_of l.context) l.blank_before (text_at l.bytes l.end));
  same : SameLine (lines_at l.bytes l.at) (lines_at l.bytes l.end);
}

abbrev pub decreases-words : goal.decreases-words
decreases-words l = length l.bytes - l.end
