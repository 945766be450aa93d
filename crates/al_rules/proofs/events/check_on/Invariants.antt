use Rattle.std.proofs.Common.{◌≡◌, ◌++◌, drop, map}
use Rattle.std.specs.List.{flat_map}
use Rattle.al_tree.specs.Values.{member_of}
use Rattle.al_rules.specs.Events.{event_name_faults, named_faults}
use Rattle.al_rules_settings.specs.Words.{of_scalar}
use Rattle.al_rules.proofs.events.check_on.Given as goal

-- the faults so far, then those of the elements left, are the faults at the start, then those of all elements
abbrev pub invariant-loop-name : goal.invariant-loop-name
invariant-loop-name l =
    l.faults ++ flat_map (λ s. event_name_faults (of_scalar s)) (map (λ s. s.now) (drop l.name-index l.name-items))
    ≡ l.fn.faults ++ flat_map (λ s. event_name_faults (of_scalar s)) (map (λ s. s.now) l.name-items)

abbrev pub invariant-loop-event : goal.invariant-loop-event
invariant-loop-event l =
    l.faults ++ flat_map named_faults (map member_of (drop l.event-index l.event-items))
    ≡ l.initial.faults ++ flat_map named_faults (map member_of l.event-items)
