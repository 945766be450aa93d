use Rattle.std.proofs.Common.{◌≡◌, drop}
use Rattle.al_yaml_parts.specs.Private.PlainBytes.{unprintable_byte}
use Rattle.al_yaml_parts.proofs.bytes.unprintable_at.Given as goal

abbrev pub invariant-loop-at : goal.invariant-loop-at
invariant-loop-at l = unprintable_byte 0 l.bytes ≡ unprintable_byte l.at (drop l.at l.bytes)
