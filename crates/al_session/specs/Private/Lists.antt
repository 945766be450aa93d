-- Kept files with one more file, and with faults stored in them.
use Rattle.std.specs.Prelude.{◌≡◌, ◌⊎◌, ◌<◌, ℕ, List, [], ◌∷◌, length, Err, IsSome, String, Vec}
use Rattle.std.specs.Prelude.{string_bytes, bytes_eq, cond}
use Rattle.std.specs.Global.{Global}
use Rattle.std.specs.List.{insert}
use Rattle.std.specs.Map.{set_value}
use Rattle.al_base.specs.Limits.{most_files}
use Rattle.al_base.specs.declared.faults.Fault.{Fault}
use Rattle.al_session_folder.specs.Folder.{paths_of}
use Rattle.al_session_folder.specs.Kept.{Files, file_at, folder_of}
use Rattle.al_session_folder.specs.Place.{path_place}
use Rattle.al_session_folder.specs.declared.kept.KeptFile.{KeptFile}

-- the file at this path has these faults
abbrev pub with_faults : {U I : Type 0} → Files U I → List ℕ → Vec Fault Global → Files U I
with_faults [] p list = []
with_faults (e ∷ es) p list =
    cond (bytes_eq p (string_bytes e.0)) ((e.0, record e.1 { faults = list }) ∷ es)
    (e ∷ with_faults es p list)

-- the file at each path has the list of the same index
abbrev pub with_lists : {U I : Type 0} → Files U I → List (List ℕ) → List (Vec Fault Global)
    → Files U I
with_lists files [] lists = files
with_lists files (p ∷ ps) [] = files
with_lists files (p ∷ ps) (list ∷ lists) = with_faults (with_lists files ps lists) p list

-- the new files have this file, inserted or in place of the one with its path
abbrev pub IsWithFile : {U I : Type 0} → List ℕ → KeptFile U I → Files U I → Files U I → Type 0
IsWithFile p file old new =
    (IsSome (file_at old p) × (new ≡ set_value (λ k. bytes_eq p (string_bytes k)) old file))
    ⊎ ((index : ℕ) × (name : String Global) × (string_bytes name ≡ p)
    × (path_place (paths_of (folder_of old)) p ≡ Err index)
    × (length old < most_files) × (new ≡ insert old index (name, file)))
