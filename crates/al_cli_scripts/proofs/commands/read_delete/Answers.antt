use Rattle.std.proofs.Common.{rules, codes}
use Rattle.std.proofs.lemmas.Grind.{common_steps}
use Rattle.al_cli_scripts.proofs.Prefixes.{unbroken_rest}
use Rattle.al_cli_scripts.proofs.commands.read_delete.Goals as goal

pub read_path-requires : goal.read_path-requires
read_path-requires c = unbroken_rest c.args.line.now (codes "delete ") c.in-Some.rest.now c.requires (search (rules, common_steps))
