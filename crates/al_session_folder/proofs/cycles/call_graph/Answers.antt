use Rattle.std.proofs.Common.{arith}
use Rattle.al_session_folder.specs.Kept.{folder_of}
use Rattle.al_session_folder.proofs.CallCycles.{program_inside, program_graph}
use Rattle.al_session_folder.proofs.cycles.call_graph.Goals as goal

pub strongly_connected_components-requires : goal.strongly_connected_components-requires
strongly_connected_components-requires g c =
    program_inside g.L.Lint.meaning (folder_of c.args.files.now.entries) c.in_ok-graph.graph.items c.as_slice.result.now c.in_ok-graph.ensures
    c.as_slice.ensures.value

pub returns : goal.returns
returns g c =
    program_graph g.L.Lint.meaning (folder_of c.args.files.now.entries) c.in_ok-graph.graph.items c.as_slice.result.now c.in_ok-graph.ensures
    c.as_slice.ensures.value c.in_ok-labels.labels.items (omega (arith, c.in_ok-labels.ensures.len)) c.in_ok-labels.ensures.exact
