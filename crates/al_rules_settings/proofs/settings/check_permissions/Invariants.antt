use Rattle.std.proofs.Common.{◌≡◌, ◌++◌, drop, map}
use Rattle.std.specs.List.{flat_map}
use Rattle.al_tree.specs.Values.{member_of}
use Rattle.al_rules_settings.specs.Settings.{permission_faults}
use Rattle.al_rules_settings.proofs.settings.check_permissions.Given as goal

-- what was added, and the faults of what is left, are the faults of all
abbrev pub invariant-loop-scope : goal.invariant-loop-scope
invariant-loop-scope l =
    l.faults ++ flat_map permission_faults (map member_of (drop l.scope-index l.scope-items))
    ≡ l.initial.faults ++ flat_map permission_faults (map member_of l.scope-items)
