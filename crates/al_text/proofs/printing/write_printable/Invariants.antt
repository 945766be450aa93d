use Rattle.std.proofs.Common.{◌≤◌, length, Result}
use Rattle.al_base.specs.Printable.{printable}
use Rattle.al_base.specs.Streams.{WritesOrFails}
use Rattle.al_base.specs.declared.stops.Stop.{Stop}
use Rattle.al_base.specs.declared.streams.Output.{Output}
use Rattle.al_text.proofs.printing.write_printable.Given as goal

abbrev pub invariant-loop-at : goal.invariant-loop-at
invariant-loop-at g l = record {
  shorter : length l.rest ≤ length l.text;
  goes_on : (new : Output g.row.W.Denot) (r : Result (Unit {0}) Stop) → WritesOrFails g.W.Write.contents l.writer new r (printable l.rest)
      → WritesOrFails g.W.Write.contents l.fn.writer new r (printable l.text);
}

abbrev pub decreases-loop-at : goal.decreases-loop-at
decreases-loop-at g l = length l.rest
