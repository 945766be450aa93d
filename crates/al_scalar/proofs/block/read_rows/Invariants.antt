use Rattle.std.proofs.Common.{length, ◌-◌, ◌≡◌, ◌≤◌}
use Rattle.al_scalar.specs.Places.{lines_at}
use Rattle.al_scalar.specs.Private.BlockRead.{rest_of}
use Rattle.al_scalar.proofs.block.read_rows.Given as goal

abbrev pub invariant-rows : goal.invariant-rows
invariant-rows l = record {
  from : l.initial.state.end ≤ l.state.end;
  after : l.state.end ≤ l.i;
  inside : l.i ≤ length l.bytes;
  rows : rest_of l.style l.style.explicit l.initial.state (lines_at l.bytes l.at) ≡ rest_of l.style l.found l.state (lines_at l.bytes l.i);
}

abbrev pub decreases-rows : goal.decreases-rows
decreases-rows l = length l.bytes - l.i
