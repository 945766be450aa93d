-- What the reader of commands says of the waiting bytes.
use Rattle.std.specs.Prelude.{◌≡◌, ◌≢◌, ℕ, ◌<◌, ◌≤◌, ◌^◌, List, ◌∷◌, ◌++◌, length, take, drop}
use Rattle.std.specs.Prelude.{decimal, Option, MatchOption, slice_index}
use Rattle.std.specs.Borrow.{Bor}
use Rattle.al_cli_scripts.specs.Script as script
use Rattle.al_cli_scripts.specs.Script.{command_bytes, IsCommand, IsWrong, IsPending, IsLine}
use Rattle.al_cli_scripts.specs.Script.{IsPathText, line_bytes}
use Rattle.al_cli_scripts.specs.declared.commands.Command.{Command}
use Rattle.al_cli_scripts.specs.declared.commands.Command.TheVariants.{Put, Delete, Report}
use Rattle.al_cli_scripts.specs.declared.commands.Line.{Line}
use Rattle.al_cli_scripts.specs.declared.commands.Line.TheVariants as line
use Rattle.al_cli_scripts.specs.declared.commands.NextCommand.{NextCommand}
use Rattle.al_cli_scripts.specs.declared.commands.NextCommand.TheVariants.{Whole, Pending, Wrong}

abbrev pub meaning : Command → script.Command
meaning (Put path bytes) = script.Put path.now bytes.now
meaning (Delete path) = script.Delete path.now
meaning Report = script.Report

-- the bytes begin with a whole command of n bytes
pub record IsFirst (bytes : List ℕ) (command : script.Command) (n : ℕ) : Type 0 where
  pub command_ok : IsCommand command
  pub within : n ≤ length bytes
  pub moves : 0 < n
  pub whole : bytes ≡ command_bytes command ++ drop n bytes

abbrev pub IsNext : List ℕ → NextCommand → Type 0
IsNext bytes (Whole command n) = IsFirst bytes (meaning command) n
IsNext bytes Pending = IsPending bytes
IsNext bytes Wrong = IsWrong bytes

-- ---- the parts of a line

abbrev pub line_meaning : Line → script.ScriptLine
line_meaning (line.Put path len) = script.PutLine path.now len
line_meaning (line.Delete path) = script.DeleteLine path.now
line_meaning line.Report = script.ReportLine

-- the line that has these bytes, if there is one
abbrev pub IsLineOf : List ℕ → Option Line → Type 0
IsLineOf bytes result =
    MatchOption result ((l : script.ScriptLine) → IsLine l → bytes ≢ line_bytes l)
    (λ l. IsLine (line_meaning l) × (bytes ≡ line_bytes (line_meaning l)))

-- the path and the length, if the bytes are a path, a space and a length
abbrev pub IsPutOf : List ℕ → Option (Bor (List ℕ) × ℕ) → Type 0
IsPutOf bytes result =
    MatchOption result
    ((path : List ℕ) (len : ℕ) → IsPathText path → len < 10 ^ 7 → bytes ≢ path ++ 32 ∷ decimal len)
    (λ put. IsPathText put.0.now × (put.1 < 10 ^ 7) × (bytes ≡ put.0.now ++ 32 ∷ decimal put.1))

-- the number below 10,000,000 that has these digits, if there is one
abbrev pub IsLengthOf : List ℕ → Option ℕ → Type 0
IsLengthOf digits result = MatchOption result ((len : ℕ) → len < 10 ^ 7 → digits ≢ decimal len)
    (λ len. (len < 10 ^ 7) × (digits ≡ decimal len))

-- the bytes begin with the line of a put, with its LF at this position
abbrev pub IsPutLine : List ℕ → ℕ → List ℕ → ℕ → Type 0
IsPutLine bytes end path len = (end < length bytes) × IsLine (script.PutLine path len)
    × (take end bytes ≡ line_bytes (script.PutLine path len)) × (slice_index bytes end ≡ 10)

-- the line of a delete that has these bytes, if there is one
abbrev pub IsDeleteOf : List ℕ → Option Line → Type 0
IsDeleteOf bytes result =
    MatchOption result
    ((path : List ℕ) → IsPathText path → bytes ≢ line_bytes (script.DeleteLine path))
    (λ l. (path : List ℕ) × IsPathText path × (line_meaning l ≡ script.DeleteLine path)
    × (bytes ≡ line_bytes (script.DeleteLine path)))
