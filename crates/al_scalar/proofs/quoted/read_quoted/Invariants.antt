use Rattle.std.proofs.Common.{length, ◌-◌, ◌≡◌, ◌≤◌, ◌<◌, suc}
use Rattle.al_scalar.specs.Taken.{before}
use Rattle.al_scalar.specs.Private.QuotedRead.{quoted_in}
use Rattle.al_scalar.specs.Places.{lines_at}
use Rattle.al_scalar.proofs.quoted.read_quoted.Given as goal

abbrev pub invariant-runs : goal.invariant-runs
invariant-runs l = record {
  from : l.quote < l.at;
  inside : l.at ≤ length l.bytes;
  read : quoted_in l.quotes l.quote (lines_at l.bytes (suc l.quote)) ≡ before l.text (quoted_in l.quotes l.quote (lines_at l.bytes l.at));
}

abbrev pub decreases-runs : goal.decreases-runs
decreases-runs l = length l.bytes - l.at
