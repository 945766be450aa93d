-- The candidates of a folder's calls that aren't in it.
use Rattle.std.specs.Prelude.{ℕ, Bool, not, ◌&&◌, List, is_some, filter}
use Rattle.std.specs.List.{flat_map, list_any}
use Rattle.std.specs.Ordering.{nat_cmp}
use Rattle.std.specs.Cmp.Lexicographic.{slice_cmp}
use Rattle.al_base.specs.InOrder.{in_order}
use Rattle.al_lint.specs.Meaning.{Meaning, candidates, is_candidate}
use Rattle.al_session_folder.specs.Folder.{Folder, bytes_at}
use Rattle.al_lint.specs.declared.lint.Target.{Target}

abbrev pub is_absent : Folder → List ℕ → Bool
is_absent f p = not (is_some (bytes_at f p))

-- whether a path is missing: it isn't in the folder, but is a candidate of a call of some file
abbrev pub is_missing : {I : Type 0} → Meaning I → Folder → List ℕ → Bool
is_missing m f p = is_absent f p && list_any (λ e. is_candidate (m.calls e.0 e.1) p) f

-- the candidates of these calls that aren't in the folder
abbrev pub absent_candidates : Folder → List Target → List (List ℕ)
absent_candidates f ts = filter (is_absent f) (flat_map candidates ts)

-- those of all files, in order of path, each once
unfoldable pub missing_in : {I : Type 0} → Meaning I → Folder → List (List ℕ)
missing_in m f =
    in_order (slice_cmp nat_cmp) (flat_map (λ e. absent_candidates f (m.calls e.0 e.1)) f)
