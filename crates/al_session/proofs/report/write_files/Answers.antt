use Rattle.std.proofs.Common.{arith, ◌∙◌, String}
use Rattle.std.specs.Global.{Global}
use Rattle.std.specs.List.{enumerate_from}
use Rattle.std.proofs.lemmas.List.{take_all}
use Rattle.std.proofs.lemmas.List.FromFn.{length-enumerate_from}
use Rattle.al_base.proofs.Bytes.{Appends-next}
use Rattle.al_base.proofs.Writing.{fails_in_element, succeeds}
use Rattle.al_session_folder.specs.Kept.{folder_of}
use Rattle.al_session_folder.specs.declared.kept.KeptFile.{KeptFile}
use Rattle.al_session_folder.proofs.CallCycles.{numbered_read}
use Rattle.al_session.specs.Private.Printing.{numbered_lines}
use Rattle.al_session.proofs.report.write_files.Goals as goal

pub write_file-requires : goal.write_file-requires
write_file-requires g c =
    let e : String Global × KeptFile _ _ = (c.file_number.result.0.now, c.file_number.result.1.now) in
    let is = c.requires.listed.each c.loop-index.index _ (omega (arith, c.len-index-end.ensures.len, c.loop-index-test.true)) c.index-joined-index.is e c.file_number.ensures in
    rw (c.deref.ensures.value, is) (c.requires.printable c.loop-index.index e c.file_number.ensures)

pub returns-in_err-write_file : goal.returns-in_err-write_file
returns-in_err-write_file g c =
    let files = c.args.files.now.entries in
    let e : String Global × KeptFile _ _ = (c.file_number.result.0.now, c.file_number.result.1.now) in
    let is = c.requires.listed.each c.loop-index.index _ (omega (arith, c.len-index-end.ensures.len, c.loop-index-test.true)) c.index-joined-index.is e c.file_number.ensures in
    fails_in_element _ _ _ _ (numbered_lines c.args.format g.L.Lint.meaning (folder_of files)) (enumerate_from 0 files) c.loop-index.index (c.loop-index.index, e)
    (omega (arith, length-enumerate_from 0 files, c.len-index-end.ensures.len, c.loop-index-test.true))
    (numbered_read files c.loop-index.index e c.file_number.ensures) c.loop-index.invariant.appended c.loop-index.invariant.unfailed
    _ _ c.from_residual.ensures.1 (rw (c.as_str.ensures.value, c.deref.ensures.value, is) at c.in_err-write_file.ensures)

pub loop-index-preserved : goal.loop-index-preserved
loop-index-preserved g c =
    let files = c.args.files.now.entries in
    let e : String Global × KeptFile _ _ = (c.file_number.result.0.now, c.file_number.result.1.now) in
    let is = c.requires.listed.each c.loop-index.index _ (omega (arith, c.len-index-end.ensures.len, c.loop-index-test.true)) c.index-joined-index.is e c.file_number.ensures in
    record {
      appended = Appends-next (numbered_lines c.args.format g.L.Lint.meaning (folder_of files)) (enumerate_from 0 files) c.loop-index.index (c.loop-index.index, e)
          (omega (arith, length-enumerate_from 0 files, c.len-index-end.ensures.len, c.loop-index-test.true))
          (numbered_read files c.loop-index.index e c.file_number.ensures) _ _ _ c.loop-index.invariant.appended
          (rw (c.as_str.ensures.value, c.deref.ensures.value, is) at c.in_ok-write_file.ensures.all);
      unfailed = c.in_ok-write_file.ensures.failures ∙ c.loop-index.invariant.unfailed;
    }

pub returns : goal.returns
returns g c =
    let files = c.args.files.now.entries in
    let whole = take_all c.loop-index.index (enumerate_from 0 files) (omega (arith, length-enumerate_from 0 files, c.len-index-end.ensures.len, c.loop-index-test.false)) in
    succeeds _ _ _ _ _ (rw whole at c.loop-index.invariant.appended) c.loop-index.invariant.unfailed
