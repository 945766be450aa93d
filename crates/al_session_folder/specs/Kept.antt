-- The files of a folder as a session keeps them, the index of their callers, and both after a
-- change.
use Rattle.std.specs.Prelude.{◌≡◌, ℕ, ◌≤◌, Bool, true, false, List, [], Option, Some, None}
use Rattle.std.specs.Prelude.{length, map, String, string_bytes, bytes_eq, cond}
use Rattle.std.specs.Borrow.{Bor}
use Rattle.std.specs.Global.{Global}
use Rattle.std.specs.Option.{option_map, option_map_or}
use Rattle.std.specs.List.{AllByRecursion}
use Rattle.std.specs.List.Sorted.{IsStrictlySortedBy}
use Rattle.std.specs.Ordering.{nat_cmp}
use Rattle.std.specs.Cmp.Lexicographic.{slice_cmp}
use Rattle.std.specs.Map.{lookup}
use Rattle.indexmap.specs.IndexMap.{IndexMap, get_by_text}
use Rattle.indexmap.specs.IndexSet.{IndexSet, contains_text}
use Rattle.al_base.specs.declared.faults.Fault.{Fault}
use Rattle.al_base.specs.Limits.{largest_file, most_files}
use Rattle.al_base.specs.LineStarts.{line_starts}
use Rattle.al_base.specs.Paths.{path_fault_of}
use Rattle.al_lint.specs.Meaning.{Meaning, is_candidate}
use Rattle.al_session_folder.specs.Folder.{Folder, bytes_at, faults_in, paths_of, with_file}
use Rattle.al_session_folder.specs.Folder.{without_file}
use Rattle.al_session_folder.specs.declared.kept.Calls.{Calls}
use Rattle.al_session_folder.specs.declared.kept.KeptFile.{KeptFile}
use Rattle.al_lint.specs.declared.lint.Target.{Target}

-- what these references refer to
abbrev pub referents : {T : Type 0} → List (Bor T) → List T
referents refs = map (λ r. r.now) refs

-- Kept files by path, in order of path.
abbrev pub Files : Type 0 → Type 0 → Type 0
Files U I = List (String Global × KeptFile U I)

abbrev pub entry_of : {U I : Type 0} → String Global × KeptFile U I → List ℕ × List ℕ
entry_of e = (string_bytes e.0, e.1.bytes.items)

-- the folder of kept files
abbrev pub folder_of : {U I : Type 0} → Files U I → Folder
folder_of files = map entry_of files

-- the kept file at a path
abbrev pub file_at : {U I : Type 0} → Files U I → List ℕ → Option (KeptFile U I)
file_at files q = lookup (λ k. bytes_eq q (string_bytes k)) files

-- The calls of a file with these targets, as they are kept.
pub record AreCalls (ts : List Target) (calls : Calls) : Type 0 where
  pub targets : calls.targets.items ≡ ts
  pub candidates : (c : List ℕ) → contains_text calls.candidates c ≡ is_candidate ts c

-- A kept file is one that the linter accepts, and its parts are computed from its bytes.
pub record IsKept {U I : Type 0} (m : Meaning I) (is_unit : U → List ℕ → List ℕ
    → Type 0) (path : List ℕ)
    (file : KeptFile U I) : Type 0 where
  pub valid : path_fault_of path ≡ None
  pub accepted : m.accepts path ≡ true
  pub small : length file.bytes.items ≤ largest_file
  pub lines : file.lines ≡ line_starts file.bytes.items
  pub unit : is_unit file.unit path file.bytes.items
  pub iface : file.iface ≡ m.interface path file.bytes.items
  pub calls : AreCalls (m.calls path file.bytes.items) file.calls

abbrev pub AllKept : {U I : Type 0} → Meaning I → (U → List ℕ → List ℕ → Type 0)
    → Files U I → Type 0
AllKept m is_unit files = AllByRecursion (λ e. IsKept m is_unit (string_bytes e.0) e.1) files

-- The index of callers: for a candidate, present or not, the paths of the files that call it.
abbrev pub Callers : Type 0 → Type 0 → Type 0
Callers S R = IndexMap (String Global) (IndexSet (String Global) S) R

-- whether the index has q among the callers of c
abbrev pub is_caller : {S R : Type 0} → Callers S R → List ℕ → List ℕ → Bool
is_caller callers c q = option_map_or (λ known. contains_text known q) (get_by_text callers c) false

-- whether the file at q is in the folder and has a call with the candidate c
abbrev pub calls_at : {I : Type 0} → Meaning I → Folder → List ℕ → List ℕ → Bool
calls_at m f c q = option_map_or (λ b. is_candidate (m.calls q b) c) (bytes_at f q) false

-- the index has, for every path, exactly the files that call it
abbrev pub IsCallerIndex : {S R I : Type 0} → Meaning I → Folder → Callers S R → Type 0
IsCallerIndex m f callers = (c q : List ℕ) → is_caller callers c q ≡ calls_at m f c q

-- Kept files: in order of path, each computed from its bytes.
pub record AreKept {U I : Type 0} (m : Meaning I) (is_unit : U → List ℕ → List ℕ
    → Type 0) (files : Files U I) : Type 0 where
  pub ordered : IsStrictlySortedBy (slice_cmp nat_cmp) (paths_of (folder_of files))
  pub few : length files ≤ most_files
  pub kept : AllKept m is_unit files

-- A change of one path

-- the folder with these bytes at a path, or without the path
abbrev pub with_bytes_at : Folder → List ℕ → Option (List ℕ) → Folder
with_bytes_at f p None = without_file f p
with_bytes_at f p (Some b) = with_file f p b

-- the folder of kept files with another file, or none, at a path
abbrev pub next_folder : {U I : Type 0} → Files U I → List ℕ → Option (KeptFile U I) → Folder
next_folder files p now =
    with_bytes_at (folder_of files) p (option_map (λ file. file.bytes.items) now)

-- the file at q if p has this one, or none
abbrev pub file_after : {U I : Type 0} → Files U I → List ℕ → Option (KeptFile U I) → List ℕ
    → Option (KeptFile U I)
file_after files p now q = cond (bytes_eq q p) now (file_at files q)

-- the file that a path will have, if any, is kept
abbrev pub IsKeptIf : {U I : Type 0} → Meaning I → (U → List ℕ → List ℕ → Type 0) → List ℕ
    → Option (KeptFile U I) → Type 0
IsKeptIf m is_unit p None = Unit {0}
IsKeptIf m is_unit p (Some file) = IsKept m is_unit p file

-- What a view shows: the kept files, and the file that one path will have, if any.
pub record IsView {U I : Type 0} (m : Meaning I) (is_unit : U → List ℕ → List ℕ
    → Type 0) (files : Files U I) (p : List ℕ)
    (now : Option (KeptFile U I)) : Type 0 where
  pub kept : AreKept m is_unit files
  pub next : IsKeptIf m is_unit p now

-- the faults of the file at a path in a folder
abbrev pub faults_of : {I : Type 0} → Meaning I → Folder → List ℕ → List Fault
faults_of m f q = option_map_or (faults_in m f q) (bytes_at f q) []
