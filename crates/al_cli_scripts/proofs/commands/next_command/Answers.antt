use Rattle.std.proofs.Common.{rules}
use Rattle.al_cli_scripts.proofs.Prefixes.{pending_short, wrong_here}
use Rattle.al_cli_scripts.proofs.commands.next_command.Goals as goal

pub returns-else-bytes-gt-LONGEST_LINE : goal.returns-else-bytes-gt-LONGEST_LINE
returns-else-bytes-gt-LONGEST_LINE c = pending_short c.args.bytes.now (search rules) c.if-bytes-gt-LONGEST_LINE.false

pub returns-in-None : goal.returns-in-None
returns-in-None c = let s = c.in-Some.ensures in wrong_here c.args.bytes.now c.in-Some.end s.0 s.3 s.2 c.in-None.ensures
