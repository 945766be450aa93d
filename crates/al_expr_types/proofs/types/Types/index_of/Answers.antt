use Rattle.al_expr_types.proofs.Keeping.{index_at}
use Rattle.al_expr_types.proofs.types.Types.index_of.Goals as goal

pub returns : goal.returns
returns c = index_at c.args.self.now c.args.n c.get.result c.get.ensures.value
