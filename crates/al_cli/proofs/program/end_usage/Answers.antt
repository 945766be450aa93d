use Rattle.std.proofs.Common.{refl}
use Rattle.al_cli.proofs.program.end_usage.Goals as goal

pub returns-in-Ok : goal.returns-in-Ok
returns-in-Ok g c = (refl, rw c.help_in.ensures at c.in-Ok.ensures.all)

pub returns-in-Err : goal.returns-in-Err
returns-in-Err g c = (c.in-Err.ensures.err, rw c.help_in.ensures at c.in-Err.ensures.prefix)
