use Rattle.std.proofs.Common.{[]}
use Rattle.al_cli_scripts.proofs.Laws.{command_unique, wrong_never}
use Rattle.al_cli_scripts.proofs.Outputs.{wrong_stays, one_output, some_output}
use Rattle.al_cli_scripts.proofs.scripts.script_laws.Goals as goal

pub returns-clause-command : goal.returns-clause-command
returns-clause-command c = command_unique

pub returns-clause-wrong : goal.returns-clause-wrong
returns-clause-wrong c = λ bytes more w. (wrong_stays bytes more w, wrong_never bytes more w)

pub returns-clause-one_output : goal.returns-clause-one_output
returns-clause-one_output c = λ format script out out' answer answer' p q. one_output p q

pub returns-clause-some_output : goal.returns-clause-some_output
returns-clause-some_output c = λ format script. some_output [] script
