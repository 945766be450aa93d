use Rattle.std.proofs.Common.{sym, ◌∙◌, ◌≡◌, [], ap, rules, arith, map, String}
use Rattle.std.specs.Global.{Global}
use Rattle.std.specs.List.{filter_map}
use Rattle.std.proofs.lemmas.List.{take_all}
use Rattle.std.proofs.lemmas.Option.{get_or_from_slice_get}
use Rattle.al_graph.specs.Graphs.{edges_of}
use Rattle.al_session_folder.specs.Kept.{folder_of}
use Rattle.al_session_folder.specs.Cycles.{callee}
use Rattle.al_session_folder.specs.declared.kept.KeptFile.{KeptFile}
use Rattle.al_session_folder.proofs.CallCycles.{graph_kept, graph_next}
use Rattle.al_session_folder.proofs.cycles.calls_graph.Goals as goal

pub loop-index-init : goal.loop-index-init
loop-index-init g c =
    let none : c.in_ok-graph.graph.items ≡ [] = search rules in
    ap edges_of none

pub loop-index-preserved : goal.loop-index-preserved
loop-index-preserved g c =
    let files = c.args.files.now.entries in
    let h = callee (folder_of files) in
    let e : String Global × KeptFile _ _ = (c.file_number.result.0.now, c.file_number.result.1.now) in
    graph_next (λ x. filter_map h x.1.calls.targets.items) files c.loop-index.index e c.loop-index.graph.items c.push.new.self.items c.in_ok-callees.field-0
    (omega (arith, c.len-index-end.ensures.len, c.loop-index-test.true)) (sym (get_or_from_slice_get files c.loop-index.index e e c.file_number.ensures))
    c.loop-index.invariant c.in_ok-push.ensures.items (c.in_ok-callees.ensures ∙ ap (filter_map h) c.deref.ensures.value)

pub returns : goal.returns
returns g c =
    let files = c.args.files.now.entries in
    let h = callee (folder_of files) in
    let whole = take_all c.loop-index.index files (omega (arith, c.len-index-end.ensures.len, c.loop-index-test.false)) in
    c.loop-index.invariant ∙ ap (map (λ x. filter_map h x.1.calls.targets.items)) whole
    ∙ graph_kept g.L.Lint.meaning g.L.Lint.is_unit h files c.requires.kept
