use Rattle.std.proofs.Common.{◌≡◌, length}
use Rattle.al_scalar.specs.Class.{after_digits}
use Rattle.al_scalar.proofs.class.after_digits.Given as goal

abbrev pub invariant-digits : goal.invariant-digits
invariant-digits l = after_digits l.text ≡ after_digits l.rest

abbrev pub decreases-digits : goal.decreases-digits
decreases-digits l = length l.rest
