use Rattle.std.proofs.Common.{◌∙◌, ap, arith, subst, ℕ, String}
use Rattle.std.specs.Global.{Global}
use Rattle.std.specs.Prelude.{string_bytes}
use Rattle.al_session_folder.specs.declared.kept.KeptFile.{KeptFile}
use Rattle.al_session_folder.proofs.CallCycles.{entry_number, one_entry}
use Rattle.al_session_folder.proofs.Places.{length-folder_of}
use Rattle.al_session_folder.specs.Printing.{AreNumbered, IsListed}
use Rattle.al_session_folder.proofs.ListedFaults.{listed_is, numbered_more, numbered_none}
use Rattle.al_session_folder.proofs.joining.join_files.Goals as goal

pub loop-index-init : goal.loop-index-init
loop-index-init g c = numbered_none (IsListed g.L.Lint.meaning c.args.files.now.entries) _ c.in_ok-joined.ensures.items

pub loop-index-preserved : goal.loop-index-preserved
loop-index-preserved g c =
    let files = c.args.files.now.entries in
    numbered_more (IsListed g.L.Lint.meaning files) c.loop-index.index c.loop-index.joined.items c.push.new.self.items _ c.loop-index.invariant
    (λ e at.
    let own : String Global × KeptFile _ _ = (c.file_number.result.0.now, c.file_number.result.1.now) in
    let same = one_entry files c.loop-index.index own e c.file_number.ensures at in
    listed_is g.L.Lint.meaning g.met.L.Lint.ordered files c.loop-index.index e _ _ _ c.requires.checked at
    (c.deref.ensures.value ∙ ap (λ x. x.1.faults.items) same)
    (c.deref-in-loop-index.ensures.value ∙ c.requires.call_cycle_faults.each c.loop-index.index _
    (omega (arith, length-folder_of files, c.len-index-end.ensures.len, c.loop-index-test.true)) c.index-call_cycle_faults-index.is (string_bytes e.0) e.1.bytes.items
    (entry_number files c.loop-index.index e at))
    c.in_ok-join_faults.ensures)
    c.in_ok-push.ensures.items

pub returns : goal.returns
returns g c =
    let P : ℕ → Type 0 = λ n. AreNumbered (IsListed g.L.Lint.meaning c.args.files.now.entries) n c.loop-index.joined.items in
    subst P (omega (arith, c.len-index-end.ensures.len, c.loop-index-test.false)) c.loop-index.invariant
