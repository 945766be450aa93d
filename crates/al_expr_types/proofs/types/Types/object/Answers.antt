use Rattle.al_expr_types.proofs.Tables.{read}
use Rattle.al_expr_types.proofs.types.Types.object.Goals as goal

pub returns : goal.returns
returns c =
    let at = read c.args.self.now.objects.items c.args.n c.index.result.now c.args.self.now.ordered c.requires c.index.ensures in
    record { object = at.1; below = at.0 }
