use Rattle.std.proofs.Common.{◌≡◌, take}
use Rattle.std.specs.Io.KnownBytes.{Appends}
use Rattle.al_text.specs.Private.Fragments.{bytes_of_fragments}
use Rattle.al_text.proofs.printing.write_fragments.Given as goal

abbrev pub invariant-loop-fragment : goal.invariant-loop-fragment
invariant-loop-fragment g l = record {
  appended : Appends (g.W.Write.contents l.fn.writer.inner) (g.W.Write.contents l.writer.inner) (bytes_of_fragments (take l.fragment-index l.fragments));
  unfailed : l.writer.failures ≡ l.fn.writer.failures;
}
