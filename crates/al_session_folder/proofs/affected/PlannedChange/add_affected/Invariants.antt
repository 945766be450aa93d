use Rattle.std.proofs.Common.{◌≡◌, ℕ, List, not, ◌&&◌, ◌||◌, take}
use Rattle.std.specs.Prelude.{bytes_eq, string_bytes}
use Rattle.std.specs.List.{list_any}
use Rattle.al_session_folder.specs.Affected.{is_affected, is_among}
use Rattle.al_session_folder.specs.FolderViews.{changed_by}
use Rattle.al_session_folder.proofs.affected.PlannedChange.add_affected.Given as goal

abbrev pub invariant-loop-name : goal.invariant-loop-name
invariant-loop-name g l = (q : List ℕ) → is_among q l.paths.items
    ≡ ((not (bytes_eq q l.self.path) && is_affected g.L.Iface.PartialEq.eq g.L.Lint.meaning l.self.before (changed_by l.self) q)
    && list_any (λ k. bytes_eq q (string_bytes k)) (take l.name-index l.names)) || is_among q l.fn.paths.items
