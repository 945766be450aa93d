-- What a session is, the invariant of what it keeps, and what a put reads.
use Rattle.std.specs.Prelude.{◌≡◌, ◌≢◌, ℕ, List, None, Some}
use Rattle.al_base.specs.Counted.{count_after}
use Rattle.al_lint.specs.Meaning.{IsUpTo, Meaning}
use Rattle.al_session_folder.specs.Folder.{Folder, bytes_at, put_refusal}
use Rattle.al_session_folder.specs.Kept.{Files, folder_of, Callers, IsCallerIndex, AreKept}
use Rattle.al_session_folder.specs.Checked.{AllChecked}
use Rattle.al_session.specs.declared.indexed.IndexedFiles.{IndexedFiles}

-- What contracts see of a session: its folder, and its linter's two counts.
pub record SessionState : Type 0 where
  pub folder : Folder
  pub checks : ℕ
  pub reads : ℕ

-- The invariant of what a session keeps: the faults and the index are those of its folder.
pub record AreLinted {U I S R : Type 0} (m : Meaning I)
    (is_unit : U → List ℕ → List ℕ → Type 0) (files : Files U I)
    (callers : Callers S R) : Type 0 where
  pub kept : AreKept m is_unit files
  pub faults : AllChecked m (folder_of files) files
  pub index : IsCallerIndex m (folder_of files) callers

-- the folder of these files
abbrev pub folder_in : {U I : Type 0} → IndexedFiles U I → Folder
folder_in kept = folder_of kept.files.entries

abbrev pub IsLinted : {U I : Type 0} → Meaning I → (U → List ℕ → List ℕ → Type 0)
    → IndexedFiles U I → Type 0
IsLinted m is_unit kept = AreLinted m is_unit kept.files.entries kept.callers

-- What a put of these bytes adds to the count of reads: at most one; none if the file already has
-- these bytes, and one if it doesn't and the put can be refused only because memory ran out.
pub record ReadsForPut {I : Type 0} (m : Meaning I) (f : Folder) (path bytes : List ℕ)
    (before now : ℕ) : Type 0 where
  pub at_most : IsUpTo before now 1
  pub there : bytes_at f path ≡ Some bytes → now ≡ before
  pub read_once : put_refusal m f path bytes ≡ None → bytes_at f path ≢ Some bytes
      → now ≡ count_after before 1
