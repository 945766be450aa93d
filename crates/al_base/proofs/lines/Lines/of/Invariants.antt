use Rattle.std.proofs.Common.{◌≡◌, ◌++◌, ◌<◌, length}
use Rattle.std.specs.Prelude.{All}
use Rattle.std.specs.List.{flat_map}
use Rattle.al_base.specs.LineStarts.{line_starts}
use Rattle.al_base.proofs.LineStarts.{start_after_break}
use Rattle.al_base.proofs.lines.Lines.of.Given as goal

abbrev pub invariant-loop-at : goal.invariant-loop-at
invariant-loop-at l = record {
  starts : l.starts.items ++ flat_map (start_after_break l.bytes) l.at-iterator ≡ line_starts l.bytes;
  inside : All (λ k. k < length l.bytes) l.at-iterator;
}
