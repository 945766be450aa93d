-- What a run of the program leaves, by how it ended. In these definitions wrote and now are the
-- writer's bytes before and after.
use Rattle.std.specs.Prelude.{◌≡◌, ◌⊎◌, ℕ, true, false, List, [], Option, Ok, Err, map}
use Rattle.std.specs.Prelude.{string_bytes, if◌then◌else◌}
use Rattle.std.specs.Io.KnownBytes.{Appends, Keeps}
use Rattle.al_base.specs.Counted.{AppendsPrefix}
use Rattle.al_base.specs.Streams.{bytes_written}
use Rattle.al_base.specs.declared.streams.Input.{Input}
use Rattle.al_base.specs.declared.streams.Output.{Output}
use Rattle.al_base.specs.declared.stops.Stop.TheVariants.{WriteFault}
use Rattle.al_text.specs.declared.printing.Format.{Format}
use Rattle.al_text.specs.declared.printing.Format.TheVariants.{Oneline, Snippet}
use Rattle.al_session.specs.Folder.{Folder}
use Rattle.al_session.specs.Report.{report_of, status_of}
use Rattle.al_check.specs.Linting.{linting}
use Rattle.al_cli_scripts.specs.Replies.{session}
use Rattle.al_cli_scripts.specs.Runs.{Runs}
use Rattle.al_cli_words.specs.Words.{AsksFor, IsUsage, kinds_in, rows_in}
use Rattle.al_cli_words.specs.declared.words.Usage.{Usage}
use Rattle.al_cli_words.specs.declared.words.Usage.TheVariants as usage
use Rattle.al_cli_words.specs.declared.words.Words.{Words}
use Rattle.al_cli.specs.Disk.{Holding}
use Rattle.al_cli.specs.Linted.{ReportStops}
use Rattle.al_cli.specs.Taken.{IsGathered}
use Rattle.al_cli.specs.declared.ending.Ending.{Ending}
use Rattle.al_cli.specs.declared.ending.Ending.TheVariants as ending

-- the folder of the files of a disk that these words ask for, where the disk tells what the folder
-- at each place holds
abbrev pub IsAskedFolder : Words → (List ℕ → Option Holding) → Folder → Type 0
IsAskedFolder words holds folder =
    IsGathered (holds words.root.now) (map (λ file. file.now) words.files.items) folder

-- the format that these words ask for
abbrev pub format_of : Words → Format
format_of words = if words.oneline then Oneline else Snippet

-- A run over a folder: the report of its files was written, and the status is theirs; or a prefix
-- of that report, as a write failed; or nothing, as memory ran out or a file wasn't taken.
abbrev pub FolderEnds : Words → (List ℕ → Option Holding) → Option (List ℕ) → Option (List ℕ)
    → Ending → Type 0
FolderEnds words holds wrote now (ending.Reported status) =
    (folder : Folder) × IsAskedFolder words holds folder
    × (status ≡ status_of linting folder)
    × Appends wrote now (report_of (format_of words) linting folder)
FolderEnds words holds wrote now (ending.Stopped stop) =
    (folder : Folder) × IsAskedFolder words holds folder
    × ReportStops (format_of words) folder wrote now stop
FolderEnds words holds wrote now (ending.Unread why) = Keeps wrote now
FolderEnds words holds wrote now (ending.Answered status) = ⊥
FolderEnds words holds wrote now (ending.NoRun said) = ⊥
FolderEnds words holds wrote now ending.NotText = ⊥

-- a run of a script
abbrev pub ScriptEnds : {R W : Type 0} → Format → (R → Option (List ℕ)) → (W → Option (List ℕ))
    → Input R → Input R → Output W → Output W → Ending → Type 0
ScriptEnds format remaining contents unread left wrote now (ending.Answered status) =
    Runs (session format) [] remaining contents unread left wrote now (Ok status)
ScriptEnds format remaining contents unread left wrote now (ending.Stopped stop) =
    Runs (session format) [] remaining contents unread left wrote now (Err stop)
ScriptEnds format remaining contents unread left wrote now (ending.Reported status) = ⊥
ScriptEnds format remaining contents unread left wrote now (ending.Unread why) = ⊥
ScriptEnds format remaining contents unread left wrote now (ending.NoRun said) = ⊥
ScriptEnds format remaining contents unread left wrote now ending.NotText = ⊥

-- what the output of a run gets that the words don't ask for: help, or nothing
abbrev pub help_of : Usage → List ℕ
help_of (usage.Help text) = string_bytes text
help_of (usage.Clap text) = []
help_of usage.Session = []
help_of usage.Memory = []

-- words that ask for no run: help was written, or a prefix of it, as a write failed; and otherwise
-- nothing
abbrev pub UsageEnds : Usage → Option (List ℕ) → Option (List ℕ) → Ending → Type 0
UsageEnds asked wrote now (ending.NoRun said) = (said ≡ asked) × Appends wrote now (help_of asked)
UsageEnds asked wrote now (ending.Stopped stop) =
    (stop ≡ WriteFault) × AppendsPrefix wrote now (help_of asked)
UsageEnds asked wrote now (ending.Reported status) = ⊥
UsageEnds asked wrote now (ending.Answered status) = ⊥
UsageEnds asked wrote now (ending.Unread why) = ⊥
UsageEnds asked wrote now ending.NotText = ⊥

-- A run that words ask for: of a script, or over a folder.
pub record WordsEnd {R W : Type 0} (words : Words) (holds : List ℕ → Option Holding)
    (remaining : R → Option (List ℕ)) (contents : W → Option (List ℕ))
    (unread left : Input R) (wrote now : Output W) (end : Ending) : Type 0 where
  pub script : words.session ≡ true
      → ScriptEnds (format_of words) remaining contents unread left wrote now end
  pub folder : words.session ≡ false
      → FolderEnds words holds (bytes_written contents wrote) (bytes_written contents now) end

-- A run of the program with these texts as its arguments, the first of which is its name: they ask
-- for no run, or for one.
abbrev pub RunEnds : {R W : Type 0} → List (List ℕ) → (List ℕ → Option Holding)
    → (R → Option (List ℕ)) → (W → Option (List ℕ)) → Input R
    → Input R → Output W → Output W → Ending → Type 0
RunEnds texts holds remaining contents unread left wrote now end =
    ((asked : Usage) × IsUsage texts asked
    × UsageEnds asked (bytes_written contents wrote) (bytes_written contents now) end)
    ⊎ ((words : Words) × AsksFor (rows_in texts) words × (kinds_in texts ≡ [])
    × WordsEnd words holds remaining contents unread left wrote now end)
