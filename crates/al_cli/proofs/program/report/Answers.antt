use Rattle.al_cli.proofs.program.report.Goals as goal

pub returns-clause-status : goal.returns-clause-status
returns-clause-status g c = rw c.in_ok-session.ensures.folder at c.write_report-answer.ensures.status

pub returns-clause-report : goal.returns-clause-report
returns-clause-report g c = rw c.in_ok-session.ensures.folder at c.write_report-answer.ensures.report

pub returns-clause-stopped : goal.returns-clause-stopped
returns-clause-stopped g c = rw c.in_ok-session.ensures.folder at c.write_report-answer.ensures.stopped
