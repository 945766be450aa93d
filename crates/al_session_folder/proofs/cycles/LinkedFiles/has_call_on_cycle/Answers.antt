use Rattle.al_session_folder.specs.Kept.{folder_of}
use Rattle.al_session_folder.proofs.CallCycles.{row_inside, row_tells}
use Rattle.al_session_folder.proofs.cycles.LinkedFiles.has_call_on_cycle.Goals as goal

pub has_label_of-requires-clause-nodes : goal.has_label_of-requires-clause-nodes
has_label_of-requires-clause-nodes g c =
    let F = folder_of c.self.inside.files.now.entries in
    let below = rw (← c.self.view_is) at c.requires in
    row_inside g.L.Lint.meaning F c.self.inside.calls.now.graph.items c.self.inside.calls.now.labels.items c.deref.result.now c.as_slice-row.result.now c.index.result.now c.args.index
    c.self.invariant.calls below c.index.ensures c.as_slice-row.ensures.value c.deref.ensures.value

pub returns : goal.returns
returns g c =
    let F = folder_of c.self.inside.files.now.entries in
    let below = rw (← c.self.view_is) at c.requires in
    rw (← c.self.view_is) (λ p b at. row_tells g.L.Lint.meaning F c.self.inside.calls.now.graph.items c.self.inside.calls.now.labels.items c.deref.result.now
    c.as_slice-row.result.now c.index.result.now c.args.index c.self.invariant.calls below c.index.ensures c.as_slice-row.ensures.value c.deref.ensures.value
    c.has_label_of.result c.has_label_of.ensures p b at (g.met.L.Lint.sited p b))
