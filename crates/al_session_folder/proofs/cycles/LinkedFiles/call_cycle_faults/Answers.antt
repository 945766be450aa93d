use Rattle.std.proofs.Common.{◌≡◌, ◌∙◌, ◌<◌, length, ap, arith, refl, subst, ℕ, String}
use Rattle.std.proofs.lemmas.List.{length-map}
use Rattle.std.specs.Prelude.{string_bytes, IfSome}
use Rattle.std.specs.Global.{Global}
use Rattle.al_session_folder.specs.declared.kept.KeptFile.{KeptFile}
use Rattle.al_session_folder.specs.Kept.{folder_of}
use Rattle.al_session_folder.specs.Cycles.{calls_graph}
use Rattle.al_session_folder.specs.CallGraphs.{IsCalledBy}
use Rattle.al_lint.specs.Sites.{site_fault}
use Rattle.al_session_folder.proofs.CallCycles.{call_edge, entry_calls, kept_number, on_cycles_end, on_cycles_next}
use Rattle.al_session_folder.proofs.cycles.LinkedFiles.call_cycle_faults.Goals as goal

pub is_on_cycle-is_on_cycle-requires-clause-index : goal.is_on_cycle-is_on_cycle-requires-clause-index
is_on_cycle-is_on_cycle-requires-clause-index g c =
    let F = folder_of c.self.inside.files.now.entries in
    let below = rw (← c.self.view_is) at c.requires in
    let size = c.self.invariant.calls.tell.0 in
    let n : length (calls_graph g.L.Lint.meaning F) ≡ length F = length-map F _ in
    omega (arith, below, size, n, ap length c.deref.ensures.value)

pub is_on_cycle-is_on_cycle-requires-clause-to : goal.is_on_cycle-is_on_cycle-requires-clause-to
is_on_cycle-is_on_cycle-requires-clause-to g c =
    let F = folder_of c.self.inside.files.now.entries in
    let size = c.self.invariant.calls.tell.0 in
    let n : length (calls_graph g.L.Lint.meaning F) ≡ length F = length-map F _ in
    let all : length F ≡ length c.self.inside.files.now.entries = length-map c.self.inside.files.now.entries _ in
    subst (λ (bound : ℕ). IfSome c.callee-to.result (λ k. k < bound)) (omega (arith, size, n, all, ap length c.deref.ensures.value)) c.callee-to.ensures.inside

pub site-requires : goal.site-requires
site-requires g c =
    let v = c.self.inside in
    let e : String Global × KeptFile _ _ = (c.file_number.result.0.now, c.file_number.result.1.now) in
    let kept = kept_number g.L.Lint.meaning g.L.Lint.is_unit v.files.now.entries c.args.index e c.self.invariant.kept.kept c.file_number.ensures in
    let items = c.as_slice-targets.ensures.value ∙ kept.calls.targets in
    (string_bytes e.0, e.1.bytes.items, kept.unit, omega (arith, c.loop-call-test.true, ap length items))

pub loop-call-init : goal.loop-call-init
loop-call-init g c p b at = rw c.new-faults.ensures refl

pub loop-call-preserved : goal.loop-call-preserved
loop-call-preserved g c p b at =
    let m = g.L.Lint.meaning in
    let F = folder_of c.self.inside.files.now.entries in
    let G = calls_graph m F in
    let e : String Global × KeptFile _ _ = (c.file_number.result.0.now, c.file_number.result.1.now) in
    let file = entry_calls m g.L.Lint.is_unit c.self.inside.files.now.entries c.args.index e c.self.invariant.kept.kept c.file_number.ensures p b at in
    let items = c.as_slice-targets.ensures.value ∙ file.0 in
    let within : c.loop-call.call < length (m.calls p b) = omega (arith, c.loop-call-test.true, ap length items) in
    let read = rw items at c.index-targets-call.is in
    let edge : IsCalledBy G c.args.index c.callee-to.result = rw c.callee-to.ensures.number (call_edge m F c.args.index c.loop-call.call p b c.index-targets-call.result at within read) in
    let back = rw c.callee-to.ensures.number at (c.is_on_cycle-is_on_cycle.ensures G (rw c.deref.ensures.value c.self.invariant.calls.tell) edge) in
    on_cycles_next G F c.args.index (m.calls p b) (m.sites p b) c.loop-call.call c.loop-call.faults _ (c.loop-call.invariant p b at) c.add_fault_if.new.faults
    c.index-targets-call.result (site_fault c.site.result) within read (c.site.ensures p b file.1) (rw back at c.in_ok-add_fault_if.ensures)

pub returns : goal.returns
returns g c =
    let m = g.L.Lint.meaning in
    let F = folder_of c.self.inside.files.now.entries in
    let e : String Global × KeptFile _ _ = (c.file_number.result.0.now, c.file_number.result.1.now) in
    rw (← c.self.view_is) (λ p b at.
    let file = entry_calls m g.L.Lint.is_unit c.self.inside.files.now.entries c.args.index e c.self.invariant.kept.kept c.file_number.ensures p b at in
    c.into_faults-2.ensures ∙ on_cycles_end (calls_graph m F) F c.args.index (m.calls p b) (m.sites p b) c.loop-call.call c.loop-call.faults _ (c.loop-call.invariant p b at)
    (omega (arith, c.loop-call-test.false, ap length (c.as_slice-targets.ensures.value ∙ file.0))))
