use Rattle.std.proofs.Common.{◌≡◌, ◌++◌, drop, map, take}
use Rattle.std.specs.List.{filter_map}
use Rattle.al_base.specs.NamePlaces.{name_position}
use Rattle.al_graph.specs.Graphs.{edges_of}
use Rattle.al_tree.specs.Values.{member_of}
use Rattle.al_rules.specs.Needs.{needs_lists}
use Rattle.al_rules.specs.Private.Components.{named_by}
use Rattle.al_rules_settings.specs.Words.{of_scalar}
use Rattle.al_rules.proofs.needs.lists_for.Given as goal

abbrev pub invariant-loop-job : goal.invariant-loop-job
invariant-loop-job l = edges_of l.lists.items ≡ needs_lists (name_position l.positions) (map member_of (take l.job-index l.jobs))

abbrev pub invariant-loop-need : goal.invariant-loop-need
invariant-loop-need l = l.needed.items ++ filter_map (named_by (name_position l.positions))
    (map of_scalar (map (λ s. s.now) (drop l.need-index l.need-items))) ≡ filter_map (named_by (name_position l.positions))
    (map of_scalar (map (λ s. s.now) l.need-items))
