use Rattle.std.proofs.Common.{◌≡◌, length}
use Rattle.al_tree.specs.Faults.{has_chunk}
use Rattle.al_tree.proofs.scalars.contains_chunk.Given as goal

abbrev pub invariant-dollars : goal.invariant-dollars
invariant-dollars l = has_chunk l.rest ≡ has_chunk l.text

abbrev pub decreases-dollars : goal.decreases-dollars
decreases-dollars l = length l.rest
