use Rattle.std.proofs.Common.{◌≡◌, ◌++◌, drop, map}
use Rattle.std.specs.List.{flat_map}
use Rattle.al_base.specs.NamePlaces.{name_position}
use Rattle.al_tree.specs.Values.{member_of}
use Rattle.al_rules_settings.specs.Matrix.{exclude_faults}
use Rattle.al_rules_settings.specs.Words.{of_scalar}
use Rattle.al_rules_settings.proofs.matrix.check_excluded.Given as goal

-- what was added, and the faults of what is left, are the faults of all
abbrev pub invariant-loop-member : goal.invariant-loop-member
invariant-loop-member l =
    l.faults ++ flat_map (exclude_faults (name_position l.rows)) (map (λ m. of_scalar m.0) (map member_of (drop l.member-index l.member-items)))
    ≡ l.initial.faults ++ flat_map (exclude_faults (name_position l.rows)) (map (λ m. of_scalar m.0) (map member_of l.member-items))
