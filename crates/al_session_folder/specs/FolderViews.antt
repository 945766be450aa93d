-- A view of a folder with another file, or none, at one path, and a change of one path.
use Rattle.std.specs.Prelude.{◌≡◌, ℕ, Bool, List, Option, Some, None}
use Rattle.std.specs.Option.{option_map}
use Rattle.al_base.specs.Paths.{path_fault_of}
use Rattle.al_lint.specs.Meaning.{Meaning}
use Rattle.al_session_folder.specs.Affected.{affected_paths}
use Rattle.al_session_folder.specs.Folder.{Folder}
use Rattle.al_session_folder.specs.Kept.{Files, IsView, AreKept, next_folder, with_bytes_at}
use Rattle.al_session_folder.specs.Kept.{folder_of}
use Rattle.al_session_folder.specs.declared.kept.KeptFile.{KeptFile}

-- the folder of kept files, with this file, or none, at a path if one is given
abbrev pub folder_in_view :
    {U I : Type 0} → Files U I → Option (List ℕ) → Option (KeptFile U I) → Folder
folder_in_view files None next = folder_of files
folder_in_view files (Some p) next = next_folder files p next

-- the files are kept, and so is the file at that path, if any
abbrev pub IsViewIf : {U I : Type 0} → Meaning I → (U → List ℕ → List ℕ → Type 0) → Files U I
    → Option (List ℕ) →
    Option (KeptFile U I) → Type 0
IsViewIf m is_unit files None next = AreKept m is_unit files
IsViewIf m is_unit files (Some p) next = IsView m is_unit files p next

-- A change of one path: the folder before it, and the bytes that the path will have, if any.
pub record FolderChange : Type 0 where
  pub before : Folder
  pub path : List ℕ
  pub bytes : Option (List ℕ)

-- the folder after a change
abbrev pub changed_by : FolderChange → Folder
changed_by c = with_bytes_at c.before c.path c.bytes

-- the files that a change affects
abbrev pub affected_by : {I : Type 0} → (I → I → Bool) → Meaning I → FolderChange → List (List ℕ)
affected_by eq m c = affected_paths eq m c.before (changed_by c)

-- the change of kept files after which a path has this file, or none
abbrev pub change_of : {U I : Type 0} → Files U I → List ℕ → Option (KeptFile U I) → FolderChange
change_of files p next =
    record {
      before = folder_of files;
      path = p;
      bytes = option_map (λ file. file.bytes.items) next;
    }

-- The files are kept, and so is the file that the path will have, if any.
pub record IsChange {U I : Type 0} (m : Meaning I) (is_unit : U → List ℕ → List ℕ
    → Type 0) (files : Files U I) (p : List ℕ)
    (next : Option (KeptFile U I)) : Type 0 where
  pub view : IsView m is_unit files p next
  pub valid : path_fault_of p ≡ None
