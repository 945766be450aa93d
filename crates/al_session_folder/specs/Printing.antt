-- The faults that a report lists of each file, and that they can be printed.
use Rattle.std.specs.Prelude.{◌≡◌, ℕ, ◌≤◌, ◌<◌, ◌==◌, cond, List, [], ◌++◌, length, slice_get}
use Rattle.std.specs.Prelude.{slice_index_or}
use Rattle.std.specs.Prelude.{Some, String, Vec, string_bytes}
use Rattle.std.specs.Borrow.{Bor}
use Rattle.std.specs.Global.{Global}
use Rattle.std.specs.List.{AllByRecursion}
use Rattle.al_base.specs.FaultLists.{fault_list}
use Rattle.al_base.specs.declared.faults.Fault.{Fault}
use Rattle.al_base.specs.LineStarts.{line_starts}
use Rattle.al_base.specs.Spans.{LiesIn}
use Rattle.al_base.specs.Limits.{largest_file}
use Rattle.al_lint.specs.Meaning.{Meaning}
use Rattle.al_session_folder.specs.Folder.{Folder}
use Rattle.al_session_folder.specs.Cycles.{call_cycle_faults, report_faults}
use Rattle.al_session_folder.specs.declared.kept.KeptFile.{KeptFile}
use Rattle.al_session_folder.specs.Kept.{Files, folder_of, referents}

-- a file's own faults and those of its calls on a call cycle, in the order of reports, each once;
-- empty if no call is on one
abbrev pub joined_faults : List Fault → List Fault → List Fault
joined_faults own on_cycles = cond (length on_cycles == 0) [] (fault_list (own ++ on_cycles))

-- the listed faults of a kept file: the joined ones, or its own if there are none
abbrev pub joined_or_own : {U I : Type 0} → KeptFile U I → List (Bor Fault) → List Fault
joined_or_own file joined = cond (length joined == 0) file.faults.items (referents joined)

-- These faults of a kept file can be printed: they lie in it.
pub record IsPrintable {U I : Type 0} (file : KeptFile U I) (faults : List Fault) : Type 0 where
  pub small : length file.bytes.items ≤ largest_file
  pub lines : file.lines ≡ line_starts file.bytes.items
  pub inside : AllByRecursion (λ fault. LiesIn (length file.bytes.items) fault.span) faults

-- what a report lists of each file can be printed
abbrev pub ArePrintable : {U I : Type 0} → Meaning I → Files U I → Type 0
ArePrintable {U} {I} m files =
    (i : ℕ) (e : String Global × KeptFile U I) → slice_get files i ≡ Some e →
    IsPrintable e.1 (report_faults m (folder_of files) i (string_bytes e.0) e.1.bytes.items)

-- There are this many elements, and each satisfies P with its number.
pub record AreNumbered {X : Type 0} (P : ℕ → X → Type 0) (count : ℕ) (all : List X) : Type 0 where
  pub number : length all ≡ count
  pub each : (i : ℕ) (x : X) → i < count → x ≡ slice_index_or all i x → P i x

-- the faults of the calls of the file with this number that are on a call cycle
abbrev pub IsCycleFaults : {I : Type 0} → Meaning I → Folder → ℕ → Vec Fault Global → Type 0
IsCycleFaults m f i faults =
    (p b : List ℕ) → slice_get f i ≡ Some (p, b) → faults.items ≡ call_cycle_faults m f i p b

abbrev pub AreCycleFaults : {I : Type 0} → Meaning I → Folder → List (Vec Fault Global) → Type 0
AreCycleFaults m f all = AreNumbered (IsCycleFaults m f) (length f) all

-- the listed faults of the file with this number are those that a report lists
abbrev pub IsListed : {U I : Type 0} → Meaning I → Files U I → ℕ → Vec (Bor Fault) Global → Type 0
IsListed {U} {I} m files i joined =
    (e : String Global × KeptFile U I) → slice_get files i ≡ Some e →
    joined_or_own e.1 joined.items
    ≡ report_faults m (folder_of files) i (string_bytes e.0) e.1.bytes.items

abbrev pub AreListed : {U I : Type 0} → Meaning I → Files U I
    → List (Vec (Bor Fault) Global) → Type 0
AreListed m files all = AreNumbered (IsListed m files) (length files) all
