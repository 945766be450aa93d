use Rattle.std.proofs.Common.{length}
use Rattle.al_scalar.proofs.PlacedLemmas.{placed-wider}
use Rattle.al_yaml_parts.proofs.scalars.scalar_at.Goals as goal

pub returns-in-Ok-clause-inside : goal.returns-in-Ok-clause-inside
returns-in-Ok-clause-inside c =
    let read = c.in-Ok.read in
    let within = rw c.in-Ok.is at c.in_ok-read.ensures.within in
    let placed = rw c.in-Ok.is at c.in_ok-read.ensures.placed in
    record { start = within.0; from = within.1; end = within.2; inside = within.3; placed = placed-wider read.next (length c.args.bytes.now) read.scalar within.3 placed }
