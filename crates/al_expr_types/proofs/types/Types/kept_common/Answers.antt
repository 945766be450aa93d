use Rattle.std.proofs.Common.{◌∙◌}
use Rattle.al_expr_types.proofs.Keeping.{common_at}
use Rattle.al_expr_types.proofs.types.Types.kept_common.Goals as goal

pub returns : goal.returns
returns c = common_at c.args.self.now c.args.n c.copied.result (c.copied.ensures ∙ c.get.ensures.value)
