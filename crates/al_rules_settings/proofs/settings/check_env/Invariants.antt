use Rattle.std.proofs.Common.{◌≡◌, ◌++◌, drop, map}
use Rattle.std.specs.List.{flat_map}
use Rattle.al_tree.specs.Values.{member_of}
use Rattle.al_rules_settings.specs.Settings.{variable_faults}
use Rattle.al_rules_settings.proofs.settings.check_env.Given as goal

-- what was added, and the faults of what is left, are the faults of all
abbrev pub invariant-loop-variable : goal.invariant-loop-variable
invariant-loop-variable l =
    l.faults ++ flat_map variable_faults (map member_of (drop l.variable-index l.variable-items))
    ≡ l.initial.faults ++ flat_map variable_faults (map member_of l.variable-items)
