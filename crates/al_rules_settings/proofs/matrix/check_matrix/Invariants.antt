use Rattle.std.proofs.Common.{◌≡◌, ◌++◌, drop, map}
use Rattle.std.specs.List.{flat_map}
use Rattle.al_tree.specs.Values.{member_of}
use Rattle.al_rules_settings.specs.Matrix.{row_faults}
use Rattle.al_rules_settings.proofs.matrix.check_matrix.Given as goal

-- what was added, and the faults of what is left, are the faults of all
abbrev pub invariant-loop-row : goal.invariant-loop-row
invariant-loop-row l =
    l.faults ++ flat_map row_faults (map member_of (drop l.row-index l.row-items)) ≡ l.initial.faults ++ flat_map row_faults (map member_of l.row-items)
