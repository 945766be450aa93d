use Rattle.std.proofs.Common.{◌++◌, ◌+◌, ◌∙◌, ap, append_assoc, drop, map, sym}
use Rattle.std.proofs.lemmas.List.Elements.{filter_map-append}
use Rattle.std.specs.List.{filter_map, flat_map}
use Rattle.al_tree.specs.Values.{member_of}
use Rattle.al_tree.proofs.Lists.{left_next}
use Rattle.al_check_interfaces.specs.CallViews.{call_of}
use Rattle.al_check_interfaces.specs.Uses.{call_at, job_sites}
use Rattle.al_check_interfaces.proofs.sites.calls_in.Goals as goal

pub loop-job-preserved : goal.loop-job-preserved
loop-job-preserved c =
    let jobs = c.deref-job-items.result.now in
    let i = c.loop-job.job-index in
    let before = map call_of c.loop-job.found.items in
    let here = filter_map call_at (job_sites (member_of c.job-item.result)) in
    let left = flat_map job_sites (map member_of (drop (i + 1) jobs)) in
    ap (λ calls. calls ++ filter_map call_at left) c.in_ok-add_job-in-Workflow.ensures
    ∙ append_assoc before here (filter_map call_at left)
    ∙ ap (λ calls. before ++ calls) (sym (filter_map-append call_at (job_sites (member_of c.job-item.result)) left))
    ∙ ap (λ members. before ++ filter_map call_at (flat_map job_sites members)) (sym (left_next member_of jobs i c.job-item.result c.loop-job-test.true c.job-item.is))
    ∙ c.loop-job.invariant
