use Rattle.std.proofs.Common.{arith, inl, inr}
use Rattle.al_yaml_parts.proofs.KeyLemmas.{other_line, end-more}
use Rattle.al_yaml_parts.proofs.lines.is_same_line.Goals.{then-bytes-i-eq10-via-then-bytes-i-eq10, then-bytes-i-eq10-via-else-bytes-i-eq10+then-bytes-i-eq13}
use Rattle.al_yaml_parts.proofs.lines.is_same_line.Goals as goal

pub returns-then-bytes-i-eq10 : goal.returns-then-bytes-i-eq10
returns-then-bytes-i-eq10 c =
    other_line c.args.bytes.now c.args.from c.loop-i.i c.args.to (omega arith) c.requires.inside (elim c.then-bytes-i-eq10.branch [
      | then-bytes-i-eq10-via-then-bytes-i-eq10 w ↦ inl w.if-bytes-i-eq10.true
      | then-bytes-i-eq10-via-else-bytes-i-eq10+then-bytes-i-eq13 w ↦ inr w.if-bytes-i-eq13.true
    ]) c.loop-i.invariant

pub loop-i-preserved : goal.loop-i-preserved
loop-i-preserved c = end-more c.args.bytes.now c.args.from c.loop-i.i (omega arith) c.if-bytes-i-eq10.false c.if-bytes-i-eq13.false c.loop-i.invariant
