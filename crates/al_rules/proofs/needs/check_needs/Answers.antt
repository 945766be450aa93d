use Rattle.std.proofs.Common.{◌≡◌, ◌++◌, ◌∙◌, ap, arith, map}
use Rattle.std.proofs.lemmas.Grind.{common_steps}
use Rattle.al_graph.specs.Graphs.{edges_of}
use Rattle.al_base.specs.NamePlaces.{name_position}
use Rattle.al_tree.specs.Values.{member_of}
use Rattle.al_rules.specs.Needs.{all_needs, needs_lists}
use Rattle.al_rules.specs.Private.Components.{labelled_faults}
use Rattle.al_rules.proofs.NeedLemmas.{adds_all, edges_below, found_next, lists_same}
use Rattle.al_rules.proofs.needs.check_needs.Goals as goal

pub strongly_connected_components-requires : goal.strongly_connected_components-requires
strongly_connected_components-requires c =
    let jobs = map member_of c.args.jobs.now in
    let lists : edges_of c.as_slice.result.now ≡ needs_lists (name_position c.in_ok-positions.positions) jobs =
    ap edges_of c.as_slice.ensures.value ∙ c.in_ok-needs.ensures in
    edges_below jobs c.as_slice.result.now
    (lists_same jobs (name_position c.in_ok-positions.positions) (edges_of c.as_slice.result.now) c.in_ok-positions.ensures.position lists)

pub loop-i-preserved : goal.loop-i-preserved
loop-i-preserved c = found_next (name_position c.in_ok-positions.positions) c.as_slice-labels.result.now member_of c.args.jobs.now c.loop-i.i
    c.index-jobs-i.result c.loop-i.faults c.check_job.new.faults _ c.loop-i-test.true c.index-jobs-i.is c.in_ok-check_job.ensures c.loop-i.invariant

pub returns : goal.returns
returns c =
    let jobs = map member_of c.args.jobs.now in
    let at = name_position c.in_ok-positions.positions in
    let lists : edges_of c.as_slice.result.now ≡ needs_lists at jobs = ap edges_of c.as_slice.ensures.value ∙ c.in_ok-needs.ensures in
    let added : c.loop-i.faults ≡ c.args.faults.now ++ labelled_faults at c.as_slice-labels.result.now (all_needs jobs) = grind (arith, common_steps) in
    adds_all jobs at c.as_slice.result.now c.in_ok-labels.labels.items _ _ c.in_ok-positions.ensures.position lists c.in_ok-labels.ensures.exact
    (added ∙ ap (λ ls. c.args.faults.now ++ labelled_faults at ls (all_needs jobs)) c.as_slice-labels.ensures.value)
