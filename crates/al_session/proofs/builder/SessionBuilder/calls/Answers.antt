use Rattle.std.proofs.Common.{rules}
use Rattle.al_session.proofs.Loading.{calls_kept}
use Rattle.al_session.proofs.builder.SessionBuilder.calls.Goals as goal

pub returns : goal.returns
returns g c =
    let calls = calls_kept g.L.Lint.meaning g.L.Lint.is_unit c.self.inside.kept.files.entries c.args.path.now c.self.invariant.kept.kept in
    rw (← c.self.view_is, ← calls) (search rules)
