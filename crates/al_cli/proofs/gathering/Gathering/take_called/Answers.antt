use Rattle.std.proofs.Common.{◌∙◌, refl}
use Rattle.al_cli.proofs.Listing.{held_same}
use Rattle.al_cli.proofs.Turns.{calling_next, calling_start, first_waits}
use Rattle.al_cli.proofs.gathering.Gathering.take_called.Goals as goal

pub loop-init : goal.loop-init
loop-init g c = record {
  calling = calling_start c.args.self.now.files c.loop-number.self.files c.loop-number.self.candidates.waiting.keys c.loop-number.invariant.0
      c.loop-number.invariant.1;
  held = held_same (g.D.Disk.holds c.args.disk.now c.args.root.now) c.args.self.now.files c.loop-number.self.files c.loop-number.invariant.0
      c.requires.held;
  stays = refl;
}

pub loop-preserved : goal.loop-preserved
loop-preserved g c =
    let waits = first_waits c.args.self.now.files c.loop.self.files c.loop.self.candidates.waiting.keys c.pop_first.new.self.keys c.in-Some.path
    c.loop.invariant.calling c.in-Some.ensures.removal in
    record {
      calling = calling_next c.args.self.now.files c.loop.self.files c.take_candidate.new.self.files c.loop.self.candidates.waiting.keys
          c.take_candidate.new.self.candidates.waiting.keys _ c.loop.invariant.calling waits.0 c.in_ok-take_candidate-in-Some.ensures.taken
          c.in_ok-take_candidate-in-Some.ensures.waiting;
      held = (rw c.loop.invariant.stays at c.in_ok-take_candidate-in-Some.ensures.held).all c.loop.invariant.held;
      stays = c.in_ok-take_candidate-in-Some.ensures.stays ∙ c.loop.invariant.stays;
    }
