use Rattle.std.proofs.Common.{◌≡◌, take}
use Rattle.std.specs.Io.KnownBytes.{Appends}
use Rattle.std.specs.List.{flat_map}
use Rattle.al_base.specs.Streams.{bytes_written, write_failures}
use Rattle.al_text.specs.Snippets.{text_in}
use Rattle.al_text.proofs.printer.write_faults.Given as goal

abbrev pub invariant-loop-fault : goal.invariant-loop-fault
invariant-loop-fault g l = record {
  appended : Appends (bytes_written g.W.Write.contents l.fn.writer) (bytes_written g.W.Write.contents l.writer) (flat_map (text_in l.file) (take l.fault-index l.faults));
  unfailed : write_failures l.writer ≡ write_failures l.fn.writer;
  same : l.printer.file ≡ l.file;
}
