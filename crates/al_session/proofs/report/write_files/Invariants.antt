use Rattle.std.proofs.Common.{◌≡◌, take}
use Rattle.std.specs.Io.KnownBytes.{Appends}
use Rattle.std.specs.List.{enumerate_from, flat_map}
use Rattle.al_base.specs.Streams.{bytes_written, write_failures}
use Rattle.al_session_folder.specs.Kept.{folder_of}
use Rattle.al_session.specs.Private.Printing.{numbered_lines}
use Rattle.al_session.proofs.report.write_files.Given as goal

abbrev pub invariant-loop-index : goal.invariant-loop-index
invariant-loop-index g l = record {
  appended : Appends (bytes_written g.W.Write.contents l.fn.writer) (bytes_written g.W.Write.contents l.writer)
      (flat_map (numbered_lines l.format g.L.Lint.meaning (folder_of l.files.entries)) (take l.index (enumerate_from 0 l.files.entries)));
  unfailed : write_failures l.writer ≡ write_failures l.fn.writer;
}
