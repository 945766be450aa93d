use Rattle.std.proofs.Common.{◌≡◌, ℕ, List, take, ◌&&◌, ◌||◌, bytes_eq}
use Rattle.std.specs.Prelude.{string_bytes}
use Rattle.std.specs.List.{list_any}
use Rattle.al_session_folder.specs.Kept.{is_caller}
use Rattle.al_session_folder.proofs.callers.add_callers.Given as goal

abbrev pub invariant-loop-name : goal.invariant-loop-name
invariant-loop-name l = (c q : List ℕ) → is_caller l.callers c q
    ≡ (bytes_eq q l.path && list_any (λ k. bytes_eq c (string_bytes k)) (take l.name-index l.name-items)) || is_caller l.fn.callers c q
