use Rattle.std.proofs.Common.{◌≡◌, arith, slice_index, inl}
use Rattle.al_scalar.proofs.LineLemmas.{cells_between-more, blank_run-more}
use Rattle.al_scalar.proofs.BlockLemmas.{AreSpaces-more}
use Rattle.al_scalar.proofs.lines.spaces_end.Goals as goal

pub loop-i-preserved : goal.loop-i-preserved
loop-i-preserved c =
    let bytes = c.args.bytes.now in
    let i = c.loop-i.i in
    let at = c.args.at in
    let kept = c.loop-i.invariant in
    let space : slice_index bytes i ≡ 32 = c.if-bytes-i-eq32.true in
    record {
      from = omega arith;
      inside = omega arith;
      most = omega arith;
      spaces = rw (cells_between-more bytes at i kept.from) (AreSpaces-more _ _ kept.spaces space);
      lines = blank_run-more bytes at i kept.from (omega arith) (inl space) kept.lines;
    }
