use Rattle.std.proofs.Common.{◌≡◌, ℕ, List, take}
use Rattle.indexmap.specs.IndexSet.{contains_text}
use Rattle.al_lint.specs.Meaning.{is_candidate}
use Rattle.al_session_folder.proofs.callers.candidates_of.Given as goal

abbrev pub invariant-loop-target : goal.invariant-loop-target
invariant-loop-target l = (c : List ℕ) → contains_text l.names c ≡ is_candidate (take l.target-index l.targets) c
