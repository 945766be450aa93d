-- A folder of files, its calls and their answers, and its edits.
use Rattle.std.specs.Prelude.{ℕ, not, ◌&&◌, List, [], ◌∷◌, Option, Some, None, length}
use Rattle.std.specs.Prelude.{if◌then◌else◌, nat_lt, nat_le, is_some, map, unwrap_or}
use Rattle.std.specs.Option.{option_map, option_or}
use Rattle.std.specs.Ordering.{nat_cmp}
use Rattle.std.specs.Cmp.Lexicographic.{slice_cmp}
use Rattle.std.specs.BTreeMap.{insert_entry, is_at}
use Rattle.std.specs.Map.{lookup, remove_entry}
use Rattle.al_base.specs.declared.faults.Fault.{Fault}
use Rattle.al_base.specs.Limits.{largest_file, most_files}
use Rattle.al_base.specs.Paths.{path_fault_of}
use Rattle.al_lint.specs.Meaning.{Meaning, candidates}
use Rattle.al_lint.specs.declared.lint.Target.{Target}
use Rattle.al_lint.specs.declared.lint.Refused.{Refused}
use Rattle.al_lint.specs.declared.lint.Refused.TheVariants.{BadPath, NotAccepted, TooLarge, Full}
use Rattle.al_lint.specs.declared.lint.Refused.TheVariants.{NoSuchFile, Memory}

-- The bytes of files by path, in order of path.
abbrev pub Folder : Type 0
Folder = List (List ℕ × List ℕ)

-- the bytes of a file of the folder
abbrev pub bytes_at : Folder → List ℕ → Option (List ℕ)
bytes_at f p = lookup (is_at (slice_cmp nat_cmp p)) f

-- the folder with these bytes at a path, and all other files unchanged
abbrev pub with_file : Folder → List ℕ → List ℕ → Folder
with_file f p b = insert_entry (slice_cmp nat_cmp) f p b

abbrev pub without_file : Folder → List ℕ → Folder
without_file f p = remove_entry (is_at (slice_cmp nat_cmp p)) f

abbrev pub paths_of : Folder → List (List ℕ)
paths_of f = map (λ e. e.0) f

-- Calls and their answers

-- the interface of the file at a path, if there is one
abbrev pub interface_in : {I : Type 0} → Meaning I → Folder → List ℕ → Option I
interface_in m f p = option_map (m.interface p) (bytes_at f p)

-- the first result of f among these
abbrev pub find_map : {A B : Type 0} → (A → Option B) → List A → Option B
find_map f [] = None
find_map f (x ∷ xs) = option_or (f x) (find_map f xs)

-- the answer of a call: the interface of its first candidate in the folder, or None
unfoldable pub answer : {I : Type 0} → Meaning I → Folder → Target → Option I
answer m f t = find_map (interface_in m f) (candidates t)

-- the answers of a file's calls
abbrev pub answers : {I : Type 0} → Meaning I → Folder → List ℕ → List ℕ → List (Option I)
answers m f p b = map (answer m f) (m.calls p b)

-- the faults of a file with this path and these bytes in this folder
unfoldable pub faults_in : {I : Type 0} → Meaning I → Folder → List ℕ → List ℕ → List Fault
faults_in m f p b = m.faults p b (answers m f p b)

-- the faults of the file at a path, if there is one
abbrev pub faults_at : {I : Type 0} → Meaning I → Folder → List ℕ → Option (List Fault)
faults_at m f p = option_map (faults_in m f p) (bytes_at f p)

-- Edits

-- why a put is refused, unless it is because memory ran out
unfoldable pub put_refusal : {I : Type 0} → Meaning I → Folder → List ℕ → List ℕ → Option Refused
put_refusal m f p b =
    if is_some (path_fault_of p) then Some BadPath
    else if not (m.accepts p) then Some NotAccepted
    else if nat_lt largest_file (length b) then Some TooLarge
    else if nat_le most_files (length f) && not (is_some (bytes_at f p)) then Some Full
    else None

-- why a delete is refused, unless it is because memory ran out
unfoldable pub delete_refusal : {I : Type 0} → Meaning I → Folder → List ℕ → Option Refused
delete_refusal m f p =
    if is_some (path_fault_of p) then Some BadPath
    else if not (m.accepts p) then Some NotAccepted
    else if not (is_some (bytes_at f p)) then Some NoSuchFile
    else None

-- the reply to an edit that isn't accepted
abbrev pub refusal_or_memory : Option Refused → Refused
refusal_or_memory r = unwrap_or r Memory
