use Rattle.std.proofs.Common.{◌≡◌, length, take, rules, ap, ◌∙◌}
use Rattle.std.proofs.lemmas.Grind.{common_steps}
use Rattle.std.proofs.Common.{min}
use Rattle.std.proofs.lemmas.List.{take_min}
use Rattle.al_cli_scripts.proofs.Prefixes.{find_is}
use Rattle.al_cli_scripts.proofs.commands.find_break.Goals as goal

pub returns : goal.returns
returns c =
    let n : c.min.result ≡ min 2049 (length c.args.bytes.now) = search (rules, common_steps) in
    find_is c.args.bytes.now (take c.min.result c.args.bytes.now) _ (ap (λ k. take k c.args.bytes.now) n ∙ take_min 2049 c.args.bytes.now) (search (rules, common_steps))
