use Rattle.std.proofs.Common.{◌≡◌, ◌++◌, drop, map}
use Rattle.std.specs.List.{flat_map}
use Rattle.al_base.specs.NamePlaces.{name_position}
use Rattle.al_yaml_tree.specs.View.{view}
use Rattle.al_rules_settings.specs.Matrix.{exclude_faults, exclude_keys}
use Rattle.al_rules_settings.proofs.matrix.check_excludes.Given as goal

-- what was added, and the faults of what is left, are the faults of all
abbrev pub invariant-loop-item : goal.invariant-loop-item
invariant-loop-item l =
    l.faults ++ flat_map (exclude_faults (name_position l.positions)) (exclude_keys (map view (drop l.item-index l.items)))
    ≡ l.initial.faults ++ flat_map (exclude_faults (name_position l.positions)) (exclude_keys (map view l.items))
