use Rattle.std.proofs.Common.{◌≡◌, ◌≤◌, ◌+◌}
use Rattle.al_base.specs.Positions.{line_at, column_at, BeginsLine}
use Rattle.al_base.proofs.positions.location_of.Given as goal

abbrev pub invariant-loop-at : goal.invariant-loop-at
invariant-loop-at l = record {
  line : l.line ≡ line_at l.bytes l.at;
  column : l.column ≡ column_at l.bytes l.at;
  line_small : l.line ≤ l.at + 1;
  column_small : l.column ≤ l.at + 1;
  start : BeginsLine l.bytes l.at l.start;
}
