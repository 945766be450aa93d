-- The files of a builder.
use Rattle.std.specs.Prelude.{ℕ, List}
use Rattle.al_lint.specs.Meaning.{Meaning}
use Rattle.al_session_folder.specs.Kept.{AreKept, Callers, Files, IsCallerIndex, folder_of}
use Rattle.al_session.specs.declared.indexed.IndexedFiles.{IndexedFiles}

-- Files that were read but not yet checked, with the index of their folder.
pub record AreLoaded {U I S R : Type 0} (m : Meaning I)
    (is_unit : U → List ℕ → List ℕ → Type 0) (files : Files U I)
    (callers : Callers S R) : Type 0 where
  pub kept : AreKept m is_unit files
  pub index : IsCallerIndex m (folder_of files) callers

abbrev pub IsLoaded : {U I : Type 0} → Meaning I → (U → List ℕ → List ℕ → Type 0)
    → IndexedFiles U I → Type 0
IsLoaded m is_unit kept = AreLoaded m is_unit kept.files.entries kept.callers
