use Rattle.std.proofs.Common.{◌≡◌, ◌++◌, drop, map}
use Rattle.std.specs.List.{enumerate_from, flat_map}
use Rattle.al_base.specs.NamePlaces.{name_position}
use Rattle.al_tree.specs.Values.{member_of}
use Rattle.al_rules.specs.Needs.{all_needs, needs_in}
use Rattle.al_rules.specs.Private.Components.{labelled_faults}
use Rattle.al_rules.proofs.needs.check_needs.Given as goal

-- the faults so far, then those of the jobs left, are the faults on entry, then those of all jobs
abbrev pub invariant-loop-i : goal.invariant-loop-i
invariant-loop-i l =
    l.faults ++ labelled_faults (name_position l.positions) l.labels (flat_map needs_in (enumerate_from l.i (map member_of (drop l.i l.jobs))))
    ≡ l.fn.faults ++ labelled_faults (name_position l.positions) l.labels (all_needs (map member_of l.jobs))
