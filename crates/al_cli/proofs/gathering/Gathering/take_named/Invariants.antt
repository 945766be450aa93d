use Rattle.std.proofs.Common.{◌≡◌, map, take}
use Rattle.al_session.specs.Folder.{paths_of}
use Rattle.al_cli.specs.Taken.{AreHeld, each_once, path_named}
use Rattle.al_cli.proofs.gathering.Gathering.take_named.Given as goal

abbrev pub invariant-loop-file : goal.invariant-loop-file
invariant-loop-file g l = record {
  paths : paths_of l.self.files ≡ each_once (map path_named (map (λ file. file.now) (take l.file-index l.files)));
  waiting : l.self.candidates.waiting.keys ≡ l.fn.self.candidates.waiting.keys;
  held : AreHeld (g.D.Disk.holds l.fn.disk l.root) l.self.files;
  stays : g.D.Disk.holds l.disk l.root ≡ g.D.Disk.holds l.fn.disk l.root;
}
