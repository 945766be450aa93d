use Rattle.std.proofs.Common.{◌≡◌, ◌++◌, drop, map}
use Rattle.std.specs.List.{flat_map}
use Rattle.al_yaml_tree.specs.View.{view}
use Rattle.al_tree.specs.Values.{member_of}
use Rattle.al_rules.specs.Rules.{no_shell_faults, output_faults}
use Rattle.al_rules.proofs.actions.check_composite.Given as goal

-- the faults so far, then those of the elements left, are the faults at the start, then those of all elements
abbrev pub invariant-loop-step : goal.invariant-loop-step
invariant-loop-step l =
    l.faults ++ flat_map no_shell_faults (map view (drop l.step-index l.steps)) ≡ l.initial.faults ++ flat_map no_shell_faults (map view l.steps)

abbrev pub invariant-loop-output : goal.invariant-loop-output
invariant-loop-output l =
    l.faults ++ flat_map output_faults (map member_of (drop l.output-index l.output-items))
    ≡ l.initial.faults ++ flat_map output_faults (map member_of l.output-items)
