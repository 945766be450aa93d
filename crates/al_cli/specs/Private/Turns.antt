-- The files that each step of a run takes.
use Rattle.std.specs.Prelude.{◌≡◌, ◌⊎◌, ℕ, true, if◌then◌else◌, List, [], ◌∷◌, ◌++◌, Option, None}
use Rattle.std.specs.Prelude.{Some, slice_get, string_bytes, String}
use Rattle.std.specs.Global.{Global}
use Rattle.std.specs.List.{AllByRecursion}
use Rattle.al_session.specs.Affected.{is_among}
use Rattle.al_session.specs.Folder.{paths_of}
use Rattle.al_session.specs.declared.lint.Target.{Target}
use Rattle.al_check.specs.Linting.{linting}
use Rattle.al_cli.specs.Disk.{Held, HeldNone, HeldOutside, Holding}
use Rattle.al_cli.specs.Taken.{AreCalled, AreHeld, called_by}
use Rattle.al_cli.specs.declared.gathering.Found.{Found}
use Rattle.al_cli.specs.declared.gathering.Found.TheVariants.{File, Absent, Outside}

-- appends a file, unless one with its path is there
abbrev pub with_entry : List (List ℕ × List ℕ) → List ℕ × List ℕ → List (List ℕ × List ℕ)
with_entry files e = if is_among e.0 (paths_of files) then files else files ++ e ∷ []

-- If a file was found at the path, it is taken, unless it is there already.
abbrev pub IsTakenAs : Found → List ℕ → List (List ℕ × List ℕ) → List (List ℕ × List ℕ) → Type 0
IsTakenAs File path old new = (bytes : List ℕ) × (new ≡ with_entry old (path, bytes))
IsTakenAs Absent path old new = new ≡ old
IsTakenAs Outside path old new = new ≡ old

-- what was found where a folder has this
abbrev pub IsFoundIn : Held → Found → Type 0
IsFoundIn held File = Unit {0}
IsFoundIn held Absent = held ≡ HeldNone
IsFoundIn held Outside = held ≡ HeldOutside

abbrev pub IsFoundAt : Option Holding → List ℕ → Found → Type 0
IsFoundAt None path found = Unit {0}
IsFoundAt (Some folder) path found = IsFoundIn (folder.has path) found

-- If the folder has the files before, it has those after.
pub record KeepsHeld (holding : Option Holding) (old new : List (List ℕ × List ℕ)) : Type 0 where
  pub all : AreHeld holding old → AreHeld holding new

-- the file at the path is taken, or nothing changes
abbrev pub IsTakenIfThere : List ℕ → List (List ℕ × List ℕ) → List (List ℕ × List ℕ) → Type 0
IsTakenIfThere path old new =
    (new ≡ old) ⊎ ((bytes : List ℕ) × (new ≡ with_entry old (path, bytes)))

-- the calls of a file, if there is one
abbrev pub calls_of_entry : Option (List ℕ × List ℕ) → List Target
calls_of_entry None = []
calls_of_entry (Some e) = linting.calls e.0 e.1

-- the calls of the file with this number, if there is one
abbrev pub calls_at : List (List ℕ × List ℕ) → ℕ → List Target
calls_at files number = calls_of_entry (slice_get files number)

-- each of these texts is one of the paths
abbrev pub AreAmong : List (List ℕ) → List (String Global) → Type 0
AreAmong paths texts = AllByRecursion (λ text. is_among (string_bytes text) paths ≡ true) texts

-- The files after the first ones are each called by a file before them, and each pending text is a
-- candidate of a call of these files.
pub record IsCalling (first : List (List ℕ × List ℕ)) (files : List (List ℕ × List ℕ))
    (texts : List (String Global)) : Type 0 where
  pub after : List (List ℕ × List ℕ)
  pub all : files ≡ first ++ after
  pub called : AreCalled first after
  pub waiting : AreAmong (called_by files) texts
