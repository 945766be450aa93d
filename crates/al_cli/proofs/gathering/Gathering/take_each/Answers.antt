use Rattle.std.proofs.Common.{[], refl, rules, ◌≡◌, ◌∙◌}
use Rattle.std.proofs.lemmas.Grind.{common_steps}
use Rattle.al_cli.proofs.Listing.{covers_end, covers_next, covers_over, covers_start, held_none, held_same}
use Rattle.al_cli.proofs.Turns.{sorted_next, sorted_over, sorted_start}
use Rattle.al_cli.proofs.gathering.Gathering.take_each.Goals as goal

pub loop-path-init : goal.loop-path-init
loop-path-init g c =
    let gives = c.into_iter-path-iterator.ensures.into_iter_gives in
    record {
      sorted = sorted_start c.args.self.now.files _ c.into_iter-path-iterator.result c.requires.files gives.0 gives.4;
      waiting = refl;
      covers = covers_start (g.D.Disk.holds c.args.disk.now c.args.root.now) c.args.self.now.files c.args.listed.now c.into_iter-path-iterator.result
          c.requires.files gives.0 c.requires.listed c.in_ok-check_count.ensures.few;
      held = held_none (g.D.Disk.holds c.args.disk.now c.args.root.now) c.args.self.now.files c.requires.files;
      stays = refl;
    }

pub loop-path-preserved-in-File : goal.loop-path-preserved-in-File
loop-path-preserved-in-File g c =
    let taken = rw c.in-File.is at c.in_ok-take.ensures.taken in
    let held = (rw c.loop-path.invariant.stays at c.in_ok-take.ensures.held).all c.loop-path.invariant.held in
    record {
      sorted = sorted_next c.loop-path.self.files c.take.new.self.files c.in-Some.path.now c.loop-path.path-iterator c.next.new.self
          c.as_str-path.result.now c.loop-path.invariant.sorted c.in-Some.ensures.steps c.as_str-path.ensures.value taken;
      waiting = c.take.ensures.waiting ∙ c.loop-path.invariant.waiting;
      covers = covers_next (g.D.Disk.holds c.args.disk.now c.args.root.now) c.loop-path.self.files c.take.new.self.files c.in-Some.path.now
          c.loop-path.path-iterator c.next.new.self c.as_str-path.result.now c.loop-path.invariant.covers c.in-Some.ensures.steps
          c.as_str-path.ensures.value taken held;
      held = held;
      stays = c.in_ok-take.ensures.stays ∙ c.loop-path.invariant.stays;
    }

pub loop-path-preserved : goal.loop-path-preserved
loop-path-preserved g c =
    let passed = rw c.in-Outside.is at c.in_ok-take.ensures.taken in
    let told = rw c.loop-path.invariant.stays at (rw c.in-Outside.is at c.in_ok-take.ensures.told) in
    record {
      sorted = sorted_over c.loop-path.self.files c.take.new.self.files c.pass_over.new.self.files c.in-Some.path.now c.loop-path.path-iterator
          c.next.new.self c.loop-path.invariant.sorted c.in-Some.ensures.steps passed c.pass_over.ensures.files;
      waiting = c.pass_over.ensures.waiting ∙ c.take.ensures.waiting ∙ c.loop-path.invariant.waiting;
      covers = covers_over (g.D.Disk.holds c.args.disk.now c.args.root.now) c.loop-path.self.files c.take.new.self.files c.pass_over.new.self.files
          c.in-Some.path.now c.loop-path.path-iterator c.next.new.self c.as_str-path.result.now c.loop-path.invariant.covers
          c.in-Some.ensures.steps c.as_str-path.ensures.value told passed c.pass_over.ensures.files;
      held = held_same (g.D.Disk.holds c.args.disk.now c.args.root.now) c.loop-path.self.files c.pass_over.new.self.files
          (c.pass_over.ensures.files ∙ passed) c.loop-path.invariant.held;
      stays = c.in_ok-take.ensures.stays ∙ c.loop-path.invariant.stays;
    }

pub returns-clause-listed : goal.returns-clause-listed
returns-clause-listed g c =
    let none : c.loop-path.path-iterator ≡ [] = search (rules, common_steps) in
    covers_end (g.D.Disk.holds c.args.disk.now c.args.root.now) c.loop-path.self.files c.loop-path.path-iterator none c.loop-path.invariant.covers
