use Rattle.std.proofs.Common.{◌≡◌, ◌&&◌, bytes_eq, decimal, nat_lt, rules}
use Rattle.std.proofs.lemmas.Grind.{common_steps}
use Rattle.al_cli_scripts.proofs.Prefixes.{not_text, not_parsed, spelled}
use Rattle.al_cli_scripts.proofs.commands.read_length.Goals as goal

pub returns-in_default : goal.returns-in_default
returns-in_default c = not_text c.args.digits.now c.in_default.ensures.cases.0

pub returns-in_default-parse : goal.returns-in_default-parse
returns-in_default-parse c = not_parsed c.args.digits.now c.in-Ok.text.now _ _ c.parse.ensures.value.0 c.in-Ok.ensures.cases.0 c.in_default-parse.is

pub returns : goal.returns
returns c =
    let k = c.in-Ok-parse.length in
    let is : c.if-length-lt-LENGTHS.then_some ≡ (nat_lt k 10000000 && bytes_eq (decimal k) c.in-Ok.text.now) = search (rules, common_steps) in
    rw c.then_some.ensures (spelled c.args.digits.now c.in-Ok.text.now _ k _ c.parse.ensures.value.0 c.in-Ok.ensures.cases.0 c.in-Ok-parse.is is)
