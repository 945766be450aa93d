use Rattle.al_expr_types.proofs.Scans.{indexed_more}
use Rattle.al_expr_types.proofs.names.index_of.Goals as goal

pub loop-i-preserved : goal.loop-i-preserved
loop-i-preserved c =
    indexed_more (λ n. n.now) c.loop-i.index c.insert.new.self c.args.names.now c.loop-i.i _ c.loop-i-test.true c.loop-i.invariant
    c.in_ok-insert.ensures
