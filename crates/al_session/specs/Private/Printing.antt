-- What a report prints of a file.
use Rattle.std.specs.Prelude.{ℕ, List, String, string_bytes}
use Rattle.std.specs.Global.{Global}
use Rattle.std.specs.List.{flat_map}
use Rattle.al_base.specs.declared.faults.Fault.{Fault}
use Rattle.al_text.specs.Snippets.{fault_text}
use Rattle.al_text.specs.declared.printing.Format.{Format}
use Rattle.al_lint.specs.Meaning.{Meaning}
use Rattle.al_session_folder.specs.Folder.{Folder}
use Rattle.al_session_folder.specs.Cycles.{report_faults}
use Rattle.al_session_folder.specs.declared.kept.KeptFile.{KeptFile}

-- what a report prints of these faults of a kept file
abbrev pub lines_of : {U I : Type 0} → Format → List ℕ → KeptFile U I → List Fault → List ℕ
lines_of format path file faults = flat_map (fault_text format path file.bytes.items) faults

-- what it prints of the file with this number
abbrev pub numbered_lines : {U I : Type 0} → Format → Meaning I → Folder
    → ℕ × (String Global × KeptFile U I) → List ℕ
numbered_lines format m f x =
    lines_of format (string_bytes x.1.0) x.1.1
    (report_faults m f x.0 (string_bytes x.1.0) x.1.1.bytes.items)
