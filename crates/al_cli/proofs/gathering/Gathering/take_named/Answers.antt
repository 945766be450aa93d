use Rattle.std.proofs.Common.{ap, refl, rules, ◌≡◌, ◌∙◌}
use Rattle.std.proofs.lemmas.Grind.{common_steps}
use Rattle.al_session.specs.Folder.{paths_of}
use Rattle.al_cli.specs.Taken.{with_path}
use Rattle.al_cli.proofs.Listing.{held_none}
use Rattle.al_cli.proofs.Turns.{paths_with}
use Rattle.al_cli.proofs.gathering.Gathering.take_named.Goals as goal

pub loop-file-init : goal.loop-file-init
loop-file-init g c = record {
  paths = ap paths_of c.requires.files;
  waiting = refl;
  held = held_none (g.D.Disk.holds c.args.disk.now c.args.root.now) c.args.self.now.files c.requires.files;
  stays = refl;
}

pub loop-file-preserved : goal.loop-file-preserved
loop-file-preserved g c =
    let taken = rw c.in-File.is at c.in_ok-take.ensures.taken in
    let more : paths_of c.take.new.self.files ≡ with_path (paths_of c.loop-file.self.files) c.without_dot-path.result.now =
    paths_with c.loop-file.self.files c.take.new.self.files _ taken.0 taken.1 in
    record {
      paths = search (rules, common_steps);
      waiting = c.take.ensures.waiting ∙ c.loop-file.invariant.waiting;
      held = (rw c.loop-file.invariant.stays at c.in_ok-take.ensures.held).all c.loop-file.invariant.held;
      stays = c.in_ok-take.ensures.stays ∙ c.loop-file.invariant.stays;
    }
