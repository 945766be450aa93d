use Rattle.std.proofs.Common.{rules, codes}
use Rattle.std.proofs.lemmas.Grind.{common_steps}
use Rattle.al_cli_scripts.proofs.Prefixes.{unbroken_rest}
use Rattle.al_cli_scripts.proofs.commands.read_line.Goals as goal

pub read_put-requires : goal.read_put-requires
read_put-requires c = unbroken_rest c.args.line.now (codes "put ") c.in-Some.rest.now c.requires.one (search (rules, common_steps))
