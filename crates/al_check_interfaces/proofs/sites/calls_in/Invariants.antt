use Rattle.std.proofs.Common.{◌≡◌, ◌++◌, drop, map}
use Rattle.std.specs.List.{filter_map, flat_map}
use Rattle.al_tree.specs.Values.{member_of}
use Rattle.al_check_interfaces.specs.CallViews.{call_of}
use Rattle.al_check_interfaces.specs.Uses.{call_at, job_sites}
use Rattle.al_check_interfaces.proofs.sites.calls_in.Given as goal

-- the calls so far, then those of the jobs left
abbrev pub invariant-loop-job : goal.invariant-loop-job
invariant-loop-job l =
    map call_of l.found.items ++ filter_map call_at (flat_map job_sites (map member_of (drop l.job-index l.job-items)))
    ≡ filter_map call_at (flat_map job_sites (map member_of l.job-items))
