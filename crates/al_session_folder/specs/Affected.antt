-- The files whose faults a change of the folder may change.
use Rattle.std.specs.Prelude.{ℕ, Bool, false, not, ◌&&◌, List, Some, filter, bytes_eq}
use Rattle.std.specs.List.{list_all, list_any}
use Rattle.std.specs.Option.{option_eq, option_map_or}
use Rattle.al_lint.specs.Meaning.{Meaning}
use Rattle.al_session_folder.specs.Folder.{Folder, bytes_at, answer, paths_of}

-- a file is unchanged, and so is the answer of each of its calls; eq compares interfaces
unfoldable pub is_untouched : {I : Type 0} → (I → I → Bool) → Meaning I → Folder → Folder → List ℕ
    → List ℕ → Bool
is_untouched eq m old new p b =
    option_eq bytes_eq (bytes_at old p) (Some b)
    && list_all (λ t. option_eq eq (answer m old t) (answer m new t)) (m.calls p b)

-- the files of the new folder that are new, whose bytes changed, or that have a call whose answer
-- changed
unfoldable pub affected_paths :
    {I : Type 0} → (I → I → Bool) → Meaning I → Folder → Folder → List (List ℕ)
affected_paths eq m old new = paths_of (filter (λ e. not (is_untouched eq m old new e.0 e.1)) new)

-- whether the change from old to new affects the file at q
abbrev pub is_affected : {I : Type 0} → (I → I → Bool) → Meaning I → Folder → Folder → List ℕ → Bool
is_affected eq m old new q =
    option_map_or (λ b. not (is_untouched eq m old new q b)) (bytes_at new q) false

-- whether a path is one of these
abbrev pub is_among : List ℕ → List (List ℕ) → Bool
is_among q ps = list_any (bytes_eq q) ps
