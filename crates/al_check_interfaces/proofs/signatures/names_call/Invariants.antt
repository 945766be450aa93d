use Rattle.std.proofs.Common.{◌≡◌, drop, map}
use Rattle.std.specs.List.{list_any}
use Rattle.al_check_interfaces.specs.Interfaces.{says_call}
use Rattle.al_check_interfaces.proofs.signatures.names_call.Given as goal

abbrev pub invariant-loop-event : goal.invariant-loop-event
invariant-loop-event l =
    list_any says_call (map (λ s. s.now) (drop l.event-index l.event-items)) ≡ list_any says_call (map (λ s. s.now) l.event-items)
