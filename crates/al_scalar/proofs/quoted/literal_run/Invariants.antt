use Rattle.std.proofs.Common.{length, ◌-◌, ◌≤◌}
use Rattle.al_scalar.specs.LineEnds.{cells_between}
use Rattle.al_scalar.specs.Private.QuotedRead.{ReadsOn}
use Rattle.al_scalar.proofs.quoted.literal_run.Given as goal

abbrev pub invariant-characters : goal.invariant-characters
invariant-characters l = record {
  from : l.at ≤ l.end;
  inside : l.end ≤ length l.bytes;
  reads : ReadsOn l.quotes l.bytes l.at (cells_between l.bytes l.at l.end) l.end;
}

abbrev pub decreases-characters : goal.decreases-characters
decreases-characters l = length l.bytes - l.end
