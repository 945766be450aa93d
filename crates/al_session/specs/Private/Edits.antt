-- What an edit of kept files requires, and its results.
use Rattle.std.specs.Prelude.{◌≡◌, ◌≤◌, ◌<◌, ℕ, Bool, true, List, None, length}
use Rattle.al_base.specs.Counted.{count_after}
use Rattle.al_base.specs.Limits.{largest_file, most_files}
use Rattle.al_base.specs.Paths.{path_fault_of}
use Rattle.al_lint.specs.Meaning.{IsUpTo, Meaning}
use Rattle.al_session_folder.specs.Folder.{Folder, bytes_at}
use Rattle.al_session_folder.specs.Affected.{affected_paths}
use Rattle.al_session.specs.Session.{IsLinted, folder_in}
use Rattle.al_session.specs.declared.indexed.IndexedFiles.{IndexedFiles}

-- A put that can only be refused because memory runs out.
pub record IsAllowed {I : Type 0} (m : Meaning I) (f : Folder) (path bytes : List ℕ) : Type 0 where
  pub valid : path_fault_of path ≡ None
  pub accepted : m.accepts path ≡ true
  pub small : length bytes ≤ largest_file
  pub room : bytes_at f path ≡ None → length f < most_files

-- The files of the new folder, linted. Each affected file was checked once.
pub record IsEdited {U I : Type 0} (eq : I → I → Bool) (m : Meaning I)
    (is_unit : U → List ℕ → List ℕ → Type 0) (before : IndexedFiles U I)
    (wanted : Folder) (checks_before : ℕ) (paths : List (List ℕ)) (now : IndexedFiles U I)
    (checks_now : ℕ) : Type 0 where
  pub linted : IsLinted m is_unit now
  pub folder : folder_in now ≡ wanted
  pub rechecked : paths ≡ affected_paths eq m (folder_in before) wanted
  pub checks : checks_now ≡ count_after checks_before (length paths)

-- The files as they were before, because memory ran out. At most the affected files were checked.
pub record IsUndone {U I : Type 0} (eq : I → I → Bool) (m : Meaning I)
    (is_unit : U → List ℕ → List ℕ → Type 0) (before : IndexedFiles U I)
    (wanted : Folder) (checks_before : ℕ) (now : IndexedFiles U I) (checks_now : ℕ) : Type 0 where
  pub linted : IsLinted m is_unit now
  pub as_before : now.files.entries ≡ before.files.entries
  pub few_checks :
      IsUpTo checks_before checks_now (length (affected_paths eq m (folder_in before) wanted))
