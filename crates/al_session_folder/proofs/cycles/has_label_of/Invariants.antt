use Rattle.std.proofs.Common.{◌≡◌, None, false, get_or, nat_eq, take}
use Rattle.std.specs.List.{list_any}
use Rattle.std.specs.Option.{option_eq}
use Rattle.al_session_folder.proofs.cycles.has_label_of.Given as goal

abbrev pub invariant-loop-other : goal.invariant-loop-other
invariant-loop-other l = list_any (λ k. option_eq nat_eq (get_or l.labels k None) (get_or l.labels l.node None)) (take l.other-index l.nodes) ≡ false
