-- Laws of the definitions in `Script` and `Runs`.
use Rattle.std.specs.Prelude.{◌≡◌, ℕ, List, [], ◌++◌}
use Rattle.al_text.specs.declared.printing.Format.{Format}
use Rattle.al_cli_scripts.specs.Script.{Command, command_bytes, IsCommand, IsWrong}
use Rattle.al_cli_scripts.specs.Script.{BeginsWithCommand}
use Rattle.al_cli_scripts.specs.Runs.{Puts}
use Rattle.al_cli_scripts.specs.Replies.{session}

-- bytes begin with at most one command, and what follows it is determined
abbrev pub BeginsInOneWay : Type 0
BeginsInOneWay = (c d : Command) (x y : List ℕ) → IsCommand c → IsCommand d
    → command_bytes c ++ x ≡ command_bytes d ++ y →
    (c ≡ d) × (x ≡ y)

-- bytes that are wrong stay wrong and never become a command, whatever follows
abbrev pub StaysWrong : Type 0
StaysWrong = (bytes more : List ℕ) → IsWrong bytes
    → IsWrong (bytes ++ more) × (BeginsWithCommand (bytes ++ more) → ⊥)

-- a script has at most one output and result
abbrev pub PutsInOneWay : Type 0
PutsInOneWay = (format : Format) (script out out' : List ℕ) (answer answer' : ℕ)
    → Puts (session format) [] script out answer → Puts (session format) [] script out' answer'
    → (out ≡ out') × (answer ≡ answer')

-- a script has an output and a result
abbrev pub PutsSomething : Type 0
PutsSomething = (format : Format) (script : List ℕ)
    → (out : List ℕ) × (answer : ℕ) × Puts (session format) [] script out answer
