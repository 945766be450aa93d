-- How a run of the program ends, and its exit status.
use Rattle.std.specs.Prelude.{ℕ}
use Rattle.al_cli_words.specs.declared.words.Usage.{Usage}
use Rattle.al_cli_words.specs.declared.words.Usage.TheVariants as usage
use Rattle.al_cli.specs.declared.ending.Ending.{Ending}
use Rattle.al_cli.specs.declared.ending.Ending.TheVariants as ending

-- of arguments that ask for no run
abbrev pub usage_status : Usage → ℕ
usage_status (usage.Help text) = 0
usage_status (usage.Clap text) = 2
usage_status usage.Session = 2
usage_status usage.Memory = 3

-- a report or a script has a status of its own
abbrev pub exit_status : Ending → ℕ
exit_status (ending.Reported status) = status
exit_status (ending.Answered status) = status
exit_status ending.NotText = 2
exit_status (ending.NoRun said) = usage_status said
exit_status (ending.Unread why) = 3
exit_status (ending.Stopped stop) = 3
