-- Kept files that were checked.
use Rattle.std.specs.Prelude.{◌≡◌, string_bytes}
use Rattle.std.specs.List.{AllByRecursion}
use Rattle.al_lint.specs.Meaning.{Meaning}
use Rattle.al_session_folder.specs.Folder.{Folder, faults_in}
use Rattle.al_session_folder.specs.Kept.{Files}

-- each file is kept with the faults that it has in this folder
abbrev pub AllChecked : {U I : Type 0} → Meaning I → Folder → Files U I → Type 0
AllChecked m f files =
    AllByRecursion (λ e. e.1.faults.items ≡ faults_in m f (string_bytes e.0) e.1.bytes.items) files
