use Rattle.std.proofs.Common.{◌≡◌, ◌++◌, drop, map}
use Rattle.std.specs.List.{flat_map}
use Rattle.al_tree.specs.Faults.{missing_fault}
use Rattle.al_tree.specs.Keys.{holds}
use Rattle.al_tree.specs.Table.{field_view}
use Rattle.al_tree.proofs.check.check_missing.Given as goal

-- the faults so far, followed by those of the remaining rows, are the faults of all rows
abbrev pub invariant-loop-row : goal.invariant-loop-row
invariant-loop-row l =
    let missing = flat_map (missing_fault l.fn.at (holds l.all)) in
    l.faults ++ missing (map field_view (drop l.row-index l.rows)) ≡ l.fn.faults ++ missing (map field_view l.rows)
