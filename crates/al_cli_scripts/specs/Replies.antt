-- What a script's session does at a command: the folder, the reply and the status.
use Rattle.std.specs.Prelude.{◌≡◌, ◌≢◌, ◌⊎◌, ℕ, List, ◌++◌, length, codes, decimal, Option}
use Rattle.std.specs.Prelude.{None, Some, Result, Ok, Err}
use Rattle.std.specs.Io.KnownBytes.{Keeps}
use Rattle.al_base.specs.Counted.{AppendsPrefix}
use Rattle.al_base.specs.declared.stops.Stop.{Stop}
use Rattle.al_base.specs.declared.stops.Stop.TheVariants as stops
use Rattle.al_text.specs.declared.printing.Format.{Format}
use Rattle.al_session.specs.declared.session.Edit.{Edit}
use Rattle.al_session.specs.Affected.{affected_paths}
use Rattle.al_session.specs.Folder.{Folder, put_refusal, delete_refusal, with_file, without_file}
use Rattle.al_session.specs.Report.{report_of, status_of}
use Rattle.al_session.specs.declared.lint.Refused.{Refused}
use Rattle.al_session.specs.declared.lint.Refused.TheVariants.{BadPath, NotAccepted, TooLarge, Full}
use Rattle.al_session.specs.declared.lint.Refused.TheVariants.{NoSuchFile, Memory}
use Rattle.al_check.specs.Linting.{linting}
use Rattle.al_check_interfaces.specs.contracts.interfaces.InterfacePartialEq.TheImpl as interface
use Rattle.al_cli_scripts.specs.Script.{Command, Put, Delete, Report}
use Rattle.al_cli_scripts.specs.Runs.{Steps}

-- the number of a refusal in its reply
abbrev pub refusal_number : Refused → ℕ
refusal_number BadPath = 1
refusal_number NotAccepted = 2
refusal_number TooLarge = 3
refusal_number Full = 4
refusal_number NoSuchFile = 5
refusal_number Memory = 6

abbrev pub accepted_reply : ℕ → List ℕ
accepted_reply files = codes "ok " ++ decimal files ++ codes "\n"

abbrev pub refused_reply : Refused → List ℕ
refused_reply refused = codes "refused E" ++ decimal (refusal_number refused) ++ codes "\n"

-- the folder after an edit: unchanged if the edit is refused
abbrev pub edit_result : Option Refused → Folder → Folder → Folder
edit_result None old new = new
edit_result (Some refused) old new = old

-- the reply to an accepted edit is the number of files that it affects
abbrev pub edit_reply : Option Refused → Folder → Folder → List ℕ
edit_reply None old new =
    accepted_reply (length (affected_paths interface.ghosts.eq linting old new))
edit_reply (Some refused) old new = refused_reply refused

abbrev pub after_command : Folder → Command → Folder
after_command folder (Put path bytes) =
    edit_result (put_refusal linting folder path bytes) folder (with_file folder path bytes)
after_command folder (Delete path) =
    edit_result (delete_refusal linting folder path) folder (without_file folder path)
after_command folder Report = folder

-- the reply to a command, with faults in this format
abbrev pub reply_to : Format → Folder → Command → List ℕ
reply_to format folder (Put path bytes) =
    edit_reply (put_refusal linting folder path bytes) folder (with_file folder path bytes)
reply_to format folder (Delete path) =
    edit_reply (delete_refusal linting folder path) folder (without_file folder path)
reply_to format folder Report =
    report_of format linting folder
    ++ (codes "status " ++ decimal (status_of linting folder) ++ codes "\n")

-- why a command is refused, unless it is because memory ran out
abbrev pub refusal_of : Folder → Command → Option Refused
refusal_of folder (Put path bytes) = put_refusal linting folder path bytes
refusal_of folder (Delete path) = delete_refusal linting folder path
refusal_of folder Report = None

-- the session of a script, over its folders
abbrev pub session : Format → Steps Folder
session format =
    record { reply = reply_to format; after = after_command; status = status_of linting }

-- ---- what a reply to an edit writes

abbrev pub reply_bytes : Result Edit Refused → List ℕ
reply_bytes (Ok edit) = accepted_reply (length edit.rechecked)
reply_bytes (Err refused) = refused_reply refused

-- memory ran out and nothing was written, or a write failed after a prefix of the reply
abbrev pub ReplyStops : Result Edit Refused → Option (List ℕ) → Option (List ℕ) → Stop → Type 0
ReplyStops reply wrote now stop = ((stop ≡ stops.Memory) × (reply ≡ Err Memory) × Keeps wrote now)
    ⊎ ((stop ≡ stops.WriteFault) × (reply ≢ Err Memory)
    × AppendsPrefix wrote now (reply_bytes reply))
