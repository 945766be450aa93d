use Rattle.std.proofs.Common.{◌≡◌}
use Rattle.al_scalar.specs.Places.{first_end, lines_at}
use Rattle.al_yaml_parts.proofs.lines.is_same_line.Given as goal

abbrev pub invariant-loop-i : goal.invariant-loop-i
invariant-loop-i l = first_end (lines_at l.bytes l.from) ≡ first_end (lines_at l.bytes l.i)
