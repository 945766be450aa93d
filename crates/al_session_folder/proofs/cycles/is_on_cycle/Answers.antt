use Rattle.std.proofs.Common.{◌≡◌, ◌∙◌, None, Some, ap, get_or, rules, subst, sym}
use Rattle.al_session_folder.specs.Cycles.{is_on_cycle}
use Rattle.al_session_folder.specs.CallGraphs.{IsCalledBy}
use Rattle.al_session_folder.proofs.CallCycles.{labels_tell}
use Rattle.al_graph.proofs.Labels.{labels_same}
use Rattle.al_session_folder.proofs.cycles.is_on_cycle.Goals as goal

pub returns-in-Some : goal.returns-in-Some
returns-in-Some c graph tells edge =
    let is : c.args.to ≡ Some c.in-Some.to = search rules in
    labels_tell graph c.args.labels.now c.args.index c.in-Some.to c.eq.result tells (subst (IsCalledBy graph c.args.index) is edge)
    (labels_same (get_or c.args.labels.now c.in-Some.to None) (get_or c.args.labels.now c.args.index None) c.eq.result c.eq.ensures)
    ∙ ap (is_on_cycle graph c.args.index) (sym is)
