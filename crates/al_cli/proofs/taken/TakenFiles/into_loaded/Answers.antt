use Rattle.al_cli.proofs.Keeping.{kept_as}
use Rattle.al_cli.proofs.taken.TakenFiles.into_loaded.Goals as goal

pub returns : goal.returns
returns c =
    let kept = kept_as c.self.inside.files.folder c.self.inside.files.checks c.self.inside.order.items c.args.self c.self.invariant c.self.view_is in
    record { gathered = kept.0; folder = kept.1; checks = kept.2 }
