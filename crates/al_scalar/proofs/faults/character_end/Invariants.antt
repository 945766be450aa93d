use Rattle.std.proofs.Common.{◌≡◌, ◌≤◌, ◌<◌, ◌+◌, ◌-◌, length, drop, not}
use Rattle.std.specs.List.{prefix_len}
use Rattle.al_base.specs.Positions.{begins_char}
use Rattle.al_scalar.specs.Characters.{character_length}
use Rattle.al_scalar.proofs.faults.character_end.Given as goal

abbrev pub invariant-loop-end : goal.invariant-loop-end
invariant-loop-end l = record {
  from : l.at < l.end;
  inside : l.end ≤ length l.bytes;
  rest : l.at + character_length (drop l.at l.bytes) ≡ l.end + prefix_len (λ byte. not (begins_char byte)) (drop l.end l.bytes);
}

abbrev pub decreases-loop-end : goal.decreases-loop-end
decreases-loop-end l = length l.bytes - l.end
