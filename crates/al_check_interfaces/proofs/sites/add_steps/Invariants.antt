use Rattle.std.proofs.Common.{◌≡◌, ◌++◌, Some, drop, map}
use Rattle.std.specs.List.{enumerate_from, filter_map}
use Rattle.al_yaml_tree.specs.View.{view}
use Rattle.al_check_interfaces.specs.CallViews.{bytes_of, call_of}
use Rattle.al_check_interfaces.specs.Uses.{call_at, step_sites}
use Rattle.al_check_interfaces.proofs.sites.add_steps.Given as goal

-- the calls so far, then those of the steps left
abbrev pub invariant-loop-number : goal.invariant-loop-number
invariant-loop-number l =
    map call_of l.out.items
    ++ filter_map call_at (map (λ s. record { job = bytes_of l.job; step = Some s.0; node = s.1 }) (enumerate_from l.number (map view (drop l.number l.steps))))
    ≡ map call_of l.fn.out.items ++ filter_map call_at (step_sites (bytes_of l.job) (map view l.steps))
