use Rattle.std.proofs.lemmas.Result.{err_from_is_err_and}
use Rattle.al_scalar.specs.Places.{lines_at}
use Rattle.al_scalar.specs.Scalar.{empty_at}
use Rattle.al_yaml_parts.specs.Reads.{state_of}
use Rattle.al_yaml_parts.proofs.ReadLemmas.{empty-broken, empty-stops, empty-ok}
use Rattle.al_yaml_parts.proofs.scalars.empty_part.Goals as goal

pub returns-in_err-start-clause-is : goal.returns-in_err-start-clause-is
returns-in_err-start-clause-is c =
    let p = err_from_is_err_and c.from_residual.result c.from_residual.ensures.1 in
    rw (p.1, p.2) (empty-broken (state_of c.args.state.now) c.args.at (lines_at c.args.file.now.bytes.now c.args.next) c.in_err-start.field-0.0 c.in_err-start.ensures.limits)

pub returns-in_err-read-clause-is : goal.returns-in_err-read-clause-is
returns-in_err-read-clause-is c =
    let p = err_from_is_err_and c.from_residual-in_err-read.result c.from_residual-in_err-read.ensures.1 in
    rw (p.1, p.2) (empty-stops (state_of c.args.state.now) c.args.at (lines_at c.args.file.now.bytes.now c.args.next)
    (empty_at (lines_at c.args.file.now.bytes.now c.args.at)) c.in_err-read.field-0.0 c.in_err-read.ensures.is)

pub returns-clause-is : goal.returns-clause-is
returns-clause-is c =
    empty-ok c.args.file.now.bytes.now (state_of c.args.state.now) (state_of c.start.new.self) c.args.at c.args.next c.in_ok-read.read
    c.scalar_part.result c.in_ok-start.ensures.limits c.in_ok-start.ensures.state c.requires.inside c.in_ok-read.ensures.is
    c.scalar_part.ensures.node c.scalar_part.ensures.end c.scalar_part.ensures.next
