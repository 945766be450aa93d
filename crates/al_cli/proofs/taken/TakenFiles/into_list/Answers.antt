use Rattle.std.proofs.Common.{◌∙◌}
use Rattle.std.proofs.lemmas.Result.{IfOk-weaker}
use Rattle.al_cli.proofs.Keeping.{kept_as}
use Rattle.al_cli.proofs.taken.TakenFiles.into_list.Goals as goal

pub returns-clause-gathered : goal.returns-clause-gathered
returns-clause-gathered c =
    (kept_as c.self.inside.files.folder c.self.inside.files.checks c.self.inside.order.items c.args.self c.self.invariant c.self.view_is).0

pub returns-clause-list : goal.returns-clause-list
returns-clause-list c = IfOk-weaker c.with_bytes.result _ _ (λ list is. is ∙ c.self.view_is) c.with_bytes.ensures
