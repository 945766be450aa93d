-- What a folder of a disk holds, and what a run reads of it.
use Rattle.std.specs.Prelude.{◌≡◌, ◌≤◌, ◌+◌, ℕ, Bool, true, false, List, Option, None, Some, Result}
use Rattle.std.specs.Prelude.{Ok, Err}
use Rattle.std.specs.Prelude.{String, length, map, string_bytes}
use Rattle.std.specs.Global.{Global}
use Rattle.std.specs.BTreeSet.{BTreeSet}
use Rattle.al_base.specs.Limits.{largest_file}
use Rattle.al_cli.specs.declared.disk.DiskError.{DiskError}
use Rattle.al_cli.specs.declared.disk.DiskError.TheVariants.{Unreadable, Memory}
use Rattle.al_cli.specs.declared.disk.Entry.{Entry}
use Rattle.al_cli.specs.declared.disk.Entry.TheVariants.{File, Absent, Outside}

-- at most one byte more than allowed was read of a file
abbrev pub IsBounded : Entry → Type 0
IsBounded (File bytes) = length bytes.items ≤ largest_file + 1
IsBounded Absent = Unit {0}
IsBounded Outside = Unit {0}

-- What a folder has at a path: a file with these bytes, of which there is one more than allowed if
-- it is too large; no file; a link that leads out of the folder; or what can't be read.
pub data Held : Type 0 where
  HeldFile : List ℕ → Held
  HeldNone : Held
  HeldOutside : Held
  HeldUnreadable : Held

abbrev pub is_file : Held → Bool
is_file (HeldFile bytes) = true
is_file HeldNone = false
is_file HeldOutside = false
is_file HeldUnreadable = false

-- a folder: the paths of its workflows, unless they can't be listed, and what it has at each path
pub record Holding : Type 0 where
  pub listed : Option (List (List ℕ))
  pub has : List ℕ → Held

-- the folder has this file at the path
abbrev pub IsHeld : Option Holding → List ℕ → List ℕ → Type 0
IsHeld None path bytes = Unit {0}
IsHeld (Some folder) path bytes = folder.has path ≡ HeldFile bytes

-- an answer to a read of what is held; memory may run out instead
abbrev pub IsAnswer : Held → Result Entry DiskError → Type 0
IsAnswer held (Ok (File bytes)) = held ≡ HeldFile bytes.items
IsAnswer held (Ok Absent) = held ≡ HeldNone
IsAnswer held (Ok Outside) = held ≡ HeldOutside
IsAnswer held (Err Unreadable) = held ≡ HeldUnreadable
IsAnswer held (Err Memory) = Unit {0}

abbrev pub Tells : Option Holding → List ℕ → Result Entry DiskError → Type 0
Tells None path answer = Unit {0}
Tells (Some folder) path answer = IsAnswer (folder.has path) answer

-- an answer to a request for the paths of workflows; memory may run out instead
abbrev pub IsListing : Option (List (List ℕ)) → Result (BTreeSet (String Global)) DiskError → Type 0
IsListing listed (Ok paths) = listed ≡ Some (map (λ path. string_bytes path) paths.keys)
IsListing listed (Err Unreadable) = listed ≡ None
IsListing listed (Err Memory) = Unit {0}

abbrev pub TellsListing : Option Holding → Result (BTreeSet (String Global)) DiskError → Type 0
TellsListing None answer = Unit {0}
TellsListing (Some folder) answer = IsListing folder.listed answer
