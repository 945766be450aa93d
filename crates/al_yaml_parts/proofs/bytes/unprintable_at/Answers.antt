use Rattle.al_yaml_parts.proofs.ByteLemmas.{unprintable-more}
use Rattle.al_yaml_parts.proofs.bytes.unprintable_at.Goals as goal

pub loop-at-preserved : goal.loop-at-preserved
loop-at-preserved c = unprintable-more c.args.bytes.now c.loop-at.at c.loop-at-test.true c.loop-at.invariant c.if-is_unprintable.ensures
