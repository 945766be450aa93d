use Rattle.std.proofs.Common.{◌≡◌}
use Rattle.al_cli.specs.Private.Turns.{AreAmong, IsCalling}
use Rattle.al_cli.specs.Taken.{AreHeld, called_by}
use Rattle.al_cli.proofs.gathering.Gathering.take_called.Given as goal

abbrev pub invariant-loop-number : goal.invariant-loop-number
invariant-loop-number g l = (l.self.files ≡ l.fn.self.files) × AreAmong (called_by l.self.files) l.self.candidates.waiting.keys

abbrev pub invariant-loop : goal.invariant-loop
invariant-loop g l = record {
  calling : IsCalling l.fn.self.files l.self.files l.self.candidates.waiting.keys;
  held : AreHeld (g.D.Disk.holds l.fn.disk l.root) l.self.files;
  stays : g.D.Disk.holds l.disk l.root ≡ g.D.Disk.holds l.fn.disk l.root;
}
