use Rattle.std.proofs.Common.{ap}
use Rattle.std.proofs.lemmas.Result.{err_from_is_err_and}
use Rattle.al_session.specs.Session.{SessionState}
use Rattle.al_cli.proofs.Putting.{stopped_late, stopped_report}
use Rattle.al_cli.proofs.linted.write_report.Goals as goal

pub returns-in_err-flush-clause-stopped : goal.returns-in_err-flush-clause-stopped
returns-in_err-flush-clause-stopped g c =
    let p = err_from_is_err_and c.from_residual-in_err-flush.result c.from_residual-in_err-flush.ensures.1 in
    rw (p.1, p.2) (stopped_late c.args.format c.status.new.self.folder c.args.session.now.folder _ _ _ _ (ap (λ (s : SessionState). s.folder) c.status.ensures.unchanged)
    c.in_err-flush.ensures.err c.in_ok-report.ensures.all c.in_err-flush.ensures.bytes)

pub returns-in_err-report-clause-stopped : goal.returns-in_err-report-clause-stopped
returns-in_err-report-clause-stopped g c =
    let p = err_from_is_err_and c.from_residual-in_err-report.result c.from_residual-in_err-report.ensures.1 in
    rw (p.1, p.2) (stopped_report c.args.format c.status.new.self.folder c.args.session.now.folder _ _ _ c.report.result
    (ap (λ (s : SessionState). s.folder) c.status.ensures.unchanged) (c.in_err-report.was {u = tt}) c.in_err-report.ensures.prefix c.report.ensures.memory
    c.report.ensures.no_read)
