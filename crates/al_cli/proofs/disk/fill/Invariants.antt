use Rattle.std.proofs.Common.{◌≤◌, length}
use Rattle.al_cli.proofs.disk.fill.Given as goal

abbrev pub invariant-loop : goal.invariant-loop
invariant-loop g l = l.count ≤ length l.buffer
