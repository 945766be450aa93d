-- The folder of files that were put one after another.
use Rattle.std.specs.Prelude.{◌≡◌, ℕ, List, [], true, is_some, map, unwrap_or}
use Rattle.std.specs.List.{AllByRecursion}
use Rattle.al_session.specs.Folder.{Folder, bytes_at}
use Rattle.al_cli.specs.Linted.{folder_with}
use Rattle.al_cli.specs.Taken.{AreGathered}

-- a path with its bytes in a folder
abbrev pub entry_in : Folder → List ℕ → List ℕ × List ℕ
entry_in folder path = (path, unwrap_or (bytes_at folder path) [])

abbrev pub entries_in : Folder → List (List ℕ) → List (List ℕ × List ℕ)
entries_in folder paths = map (entry_in folder) paths

pub record KeptFiles (folder : Folder) (checks : ℕ) (paths : List (List ℕ)) : Type 0 where
  pub gathered : AreGathered (entries_in folder paths)
  pub made : folder ≡ folder_with [] (entries_in folder paths)
  pub there : AllByRecursion (λ p. is_some (bytes_at folder p) ≡ true) paths
  pub unchecked : checks ≡ 0

-- A folder of files that were put one after another, none of which is checked. It is opaque by
-- default: `made` equates the folder with a term that contains the folder, so rewriting by it
-- doesn't terminate.
unfoldable pub AreKept : Folder → ℕ → List (List ℕ) → Type 0
AreKept folder checks paths = KeptFiles folder checks paths
