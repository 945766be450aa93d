use Rattle.std.proofs.Common.{◌≡◌, ◌++◌, drop}
use Rattle.al_scalar.specs.Taken.{feeds}
use Rattle.al_scalar.proofs.block.push_feeds.Given as goal

abbrev pub invariant-loop-at : goal.invariant-loop-at
invariant-loop-at l = l.initial.text ++ feeds l.breaks ≡ l.text ++ feeds (drop l.at-index l.breaks)
