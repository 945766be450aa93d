-- What an edit changes in a folder, and what it leaves unchanged.
use Rattle.std.specs.Prelude.{◌≡◌, ◌≢◌, ℕ, Bool, false, List, [], Some}
use Rattle.std.specs.List.Sorted.{IsStrictlySortedBy}
use Rattle.std.specs.Ordering.{nat_cmp}
use Rattle.std.specs.Cmp.Lexicographic.{slice_cmp}
use Rattle.al_lint.specs.Meaning.{Meaning}
use Rattle.al_session_folder.specs.Affected.{affected_paths, is_among}
use Rattle.al_session_folder.specs.Folder.{Folder, bytes_at, faults_at, paths_of, with_file}

-- A put of the bytes that are already there changes nothing: the folder stays the same, and no file
-- is affected.
abbrev pub SamePutChangesNothing : {I : Type 0} → (I → I → Bool) → Meaning I → Folder → Type 0
SamePutChangesNothing eq m f = (p b : List ℕ) → bytes_at f p ≡ Some b →
    (with_file f p b ≡ f) × (affected_paths eq m f (with_file f p b) ≡ [])

-- Two files make the same folder, whichever is put first.
abbrev pub PutsInAnyOrder : Folder → Type 0
PutsInAnyOrder f =
    (p b q c : List ℕ) → p ≢ q → with_file (with_file f p b) q c ≡ with_file (with_file f q c) p b

-- A file that a change doesn't affect keeps its faults.
abbrev pub OthersKeepFaults : {I : Type 0} → (I → I → Bool) → Meaning I → Folder → Type 0
OthersKeepFaults eq m f =
    (g : Folder) → IsStrictlySortedBy (slice_cmp nat_cmp) (paths_of g) → (q b : List ℕ)
    → bytes_at g q ≡ Some b →
    is_among q (affected_paths eq m f g) ≡ false → faults_at m g q ≡ faults_at m f q
