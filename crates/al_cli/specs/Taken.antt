-- Files that a run took, in the order in which it put them.
use Rattle.std.specs.Prelude.{◌≡◌, ◌≤◌, ◌&&◌, ℕ, true, nat_eq, codes, drop, fold, if◌then◌else◌}
use Rattle.std.specs.Prelude.{length, map, List, [], ◌∷◌, ◌++◌}
use Rattle.std.specs.Prelude.{Option, None, Some, Vec}
use Rattle.std.specs.Cmp.Lexicographic.{slice_cmp}
use Rattle.std.specs.Global.{Global}
use Rattle.std.specs.List.{flat_map, starts_with}
use Rattle.std.specs.List.Sorted.{IsStrictlySortedBy}
use Rattle.std.specs.Ordering.{nat_cmp}
use Rattle.al_base.specs.Limits.{most_files}
use Rattle.al_session.specs.Affected.{is_among}
use Rattle.al_session.specs.Folder.{Folder, bytes_at, paths_of, with_file}
use Rattle.al_session.specs.Meaning.{candidates}
use Rattle.al_check.specs.Linting.{linting}
use Rattle.al_cli.specs.Disk.{Holding, IsHeld, is_file}
use Rattle.al_cli.specs.Linted.{AreTaken, folder_with}

-- at its turn, none of these has the path of a file put before
abbrev pub AreNew : Folder → List (List ℕ × List ℕ) → Type 0
AreNew folder [] = Unit {0}
AreNew folder (e ∷ es) = (bytes_at folder e.0 ≡ None) × AreNew (with_file folder e.0 e.1) es

-- Files that can be put one after another into an empty folder: none of them is refused, and none
-- replaces another.
pub record AreGathered (files : List (List ℕ × List ℕ)) : Type 0 where
  pub taken : AreTaken [] files
  pub new : AreNew [] files

-- Which files are taken, and in which order

-- these with a path appended, unless it is among them
abbrev pub with_path : List (List ℕ) → List ℕ → List (List ℕ)
with_path paths p = if is_among p paths then paths else paths ++ p ∷ []

-- these in order, each once
abbrev pub each_once : List (List ℕ) → List (List ℕ)
each_once paths = fold with_path [] paths

-- the path that a FILE names, which is without a leading `./`
abbrev pub path_named : List ℕ → List ℕ
path_named file = if starts_with nat_eq file (codes "./") then drop 2 file else file

-- the folder has each of these files
abbrev pub AreHeld : Option Holding → List (List ℕ × List ℕ) → Type 0
AreHeld holding [] = Unit {0}
AreHeld holding (e ∷ es) = IsHeld holding e.0 e.1 × AreHeld holding es

-- the folder lists no more paths than a run takes, and these are those that it has a file at
abbrev pub AreListedFiles : Option Holding → List (List ℕ) → Type 0
AreListedFiles None paths = Unit {0}
AreListedFiles (Some folder) paths =
    (listed : List (List ℕ)) × (folder.listed ≡ Some listed) × (length listed ≤ most_files)
    × ((p : List ℕ) → is_among p paths ≡ (is_among p listed && is_file (folder.has p)))

-- the paths that FILEs ask for: their own, in order, each once; if there are no FILEs, those of the
-- files that the folder lists, ascending
abbrev pub AreAsked : Option Holding → List (List ℕ) → List (List ℕ) → Type 0
AreAsked holding [] paths =
    IsStrictlySortedBy (slice_cmp nat_cmp) paths × AreListedFiles holding paths
AreAsked holding (file ∷ files) paths = paths ≡ each_once (map path_named (file ∷ files))

-- the candidates of the calls of these files
abbrev pub called_by : List (List ℕ × List ℕ) → List (List ℕ)
called_by files = flat_map (λ e. flat_map candidates (linting.calls e.0 e.1)) files

-- each of these files is called by one before it, or by one of the first files
abbrev pub AreCalled : List (List ℕ × List ℕ) → List (List ℕ × List ℕ) → Type 0
AreCalled first [] = Unit {0}
AreCalled first (e ∷ es) = (is_among e.0 (called_by first) ≡ true) × AreCalled (first ++ e ∷ []) es

-- Files of a folder in order: first those that these FILEs ask for, then others, each called by a
-- file before it.
pub record AreInOrder (holding : Option Holding) (words : List (List ℕ))
    (files : List (List ℕ × List ℕ)) : Type 0 where
  pub first : List (List ℕ × List ℕ)
  pub after : List (List ℕ × List ℕ)
  pub all : files ≡ first ++ after
  pub asked : AreAsked holding words (paths_of first)
  pub called : AreCalled first after
  pub held : AreHeld holding files

-- the folder of the files that these FILEs ask for, and of those that they call
pub record IsGathered (holding : Option Holding) (words : List (List ℕ)) (folder : Folder) :
    Type 0 where
  pub files : List (List ℕ × List ℕ)
  pub gathered : AreGathered files
  pub ordered : AreInOrder holding words files
  pub made : folder ≡ folder_with [] files

-- a file's path and bytes
abbrev pub owned_entry : List ℕ × Vec ℕ Global → List ℕ × List ℕ
owned_entry file = (file.0, file.1.items)
