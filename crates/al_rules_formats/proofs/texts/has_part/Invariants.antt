use Rattle.std.proofs.Common.{◌≡◌, length}
use Rattle.al_rules_formats.specs.Texts.{has_part}
use Rattle.al_rules_formats.proofs.texts.has_part.Given as goal

abbrev pub invariant-loop-tail : goal.invariant-loop-tail
invariant-loop-tail l = has_part l.part l.rest ≡ has_part l.part l.text

abbrev pub decreases-loop-tail : goal.decreases-loop-tail
decreases-loop-tail l = length l.rest
