use Rattle.std.proofs.Common.{◌≡◌, ◌++◌, map}
use Rattle.std.specs.Cmp.Lexicographic.{slice_cmp}
use Rattle.std.specs.Global.{Global}
use Rattle.std.specs.List.Sorted.{IsStrictlySortedBy}
use Rattle.std.specs.Ordering.{nat_cmp}
use Rattle.std.specs.Prelude.{String, string_bytes}
use Rattle.al_session.specs.Folder.{paths_of}
use Rattle.al_cli.specs.Taken.{AreHeld}
use Rattle.al_cli.proofs.Listing.{Covers}
use Rattle.al_cli.proofs.gathering.Gathering.take_each.Given as goal

abbrev pub invariant-loop-path : goal.invariant-loop-path
invariant-loop-path g l = record {
  sorted : IsStrictlySortedBy (slice_cmp nat_cmp) (paths_of l.self.files ++ map (λ (s : String Global). string_bytes s) l.path-iterator);
  waiting : l.self.candidates.waiting.keys ≡ l.fn.self.candidates.waiting.keys;
  covers : Covers (g.D.Disk.holds l.fn.disk l.root) (paths_of l.self.files) (map (λ (s : String Global). string_bytes s) l.path-iterator);
  held : AreHeld (g.D.Disk.holds l.fn.disk l.root) l.self.files;
  stays : g.D.Disk.holds l.disk l.root ≡ g.D.Disk.holds l.fn.disk l.root;
}
