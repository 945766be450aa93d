-- What the steps of a run leave that decide how it ends.
use Rattle.std.specs.Prelude.{◌≡◌, ℕ, List, Option}
use Rattle.std.specs.Io.KnownBytes.{Appends, Keeps}
use Rattle.al_base.specs.Counted.{HasRisen}
use Rattle.al_base.specs.Streams.{bytes_written, write_failures}
use Rattle.al_base.specs.declared.stops.Stop.TheVariants.{WriteFault}
use Rattle.al_base.specs.declared.streams.Output.{Output}
use Rattle.al_text.specs.declared.printing.Format.{Format}
use Rattle.al_session.specs.Folder.{Folder}
use Rattle.al_session.specs.Report.{report_of, status_of}
use Rattle.al_check.specs.Linting.{linting}
use Rattle.al_cli.specs.Linted.{ReportStops}
use Rattle.al_cli.specs.declared.ending.Ending.{Ending}
use Rattle.al_cli.specs.declared.ending.Ending.TheVariants as ending

-- the output of a script with this status was flushed, or that failed
abbrev pub FlushEnds : {W : Type 0} → (W → Option (List ℕ)) → Output W → Output W → ℕ
    → Ending → Type 0
FlushEnds contents wrote now status (ending.Answered said) = (said ≡ status)
    × Keeps (bytes_written contents wrote) (bytes_written contents now)
    × (write_failures now ≡ write_failures wrote)
FlushEnds contents wrote now status (ending.Stopped stop) = (stop ≡ WriteFault)
    × Keeps (bytes_written contents wrote) (bytes_written contents now)
    × HasRisen (write_failures wrote) (write_failures now)
FlushEnds contents wrote now status (ending.Reported said) = ⊥
FlushEnds contents wrote now status (ending.Unread why) = ⊥
FlushEnds contents wrote now status (ending.NoRun said) = ⊥
FlushEnds contents wrote now status ending.NotText = ⊥

-- the report of this folder was written, or stopped
abbrev pub ReportEnds : Format → Folder → Option (List ℕ) → Option (List ℕ) → Ending → Type 0
ReportEnds format folder wrote now (ending.Reported status) =
    (status ≡ status_of linting folder) × Appends wrote now (report_of format linting folder)
ReportEnds format folder wrote now (ending.Stopped stop) = ReportStops format folder wrote now stop
ReportEnds format folder wrote now (ending.Answered status) = ⊥
ReportEnds format folder wrote now (ending.Unread why) = ⊥
ReportEnds format folder wrote now (ending.NoRun said) = ⊥
ReportEnds format folder wrote now ending.NotText = ⊥
