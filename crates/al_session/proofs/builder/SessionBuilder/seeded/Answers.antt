use Rattle.al_session.proofs.Loading.{empty_loaded}
use Rattle.al_session.proofs.builder.SessionBuilder.seeded.Goals as goal

pub invariant_of-result : goal.invariant_of-result
invariant_of-result g c =
    empty_loaded g.L.Lint.meaning g.L.Lint.is_unit c.new.result.files.entries c.new.result.callers c.new.ensures.files c.new.ensures.callers
