use Rattle.al_session.proofs.Loading.{empty_linted}
use Rattle.al_session.proofs.session.Session.open_seeded.Goals as goal

pub of-requires : goal.of-requires
of-requires g c =
    empty_linted g.L.Lint.meaning g.L.Lint.is_unit c.new.result.files.entries c.new.result.callers c.new.ensures.files c.new.ensures.callers
