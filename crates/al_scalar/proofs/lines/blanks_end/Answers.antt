use Rattle.std.proofs.Common.{refl, arith, slice_index}
use Rattle.al_scalar.specs.LineEnds.{IsBlankByte}
use Rattle.al_scalar.proofs.LineLemmas.{cells_between-more, blank_run-more, AreBlank-more}
use Rattle.al_scalar.proofs.lines.blanks_end.Goals as goal

pub loop-i-preserved : goal.loop-i-preserved
loop-i-preserved c =
    let bytes = c.args.bytes.now in
    let i = c.loop-i.i in
    let at = c.args.at in
    let kept = c.loop-i.invariant in
    let blank : IsBlankByte (slice_index bytes i) = c.if-is_blank.ensures.0 refl in
    record {
      from = omega arith;
      inside = omega arith;
      blanks = rw (cells_between-more bytes at i kept.from) (AreBlank-more _ _ kept.blanks blank);
      lines = blank_run-more bytes at i kept.from (omega arith) blank kept.lines;
    }
