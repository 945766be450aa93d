use Rattle.al_cli.proofs.program.report_gathered.Goals as goal

pub returns-in-Ok : goal.returns-in-Ok
returns-in-Ok g c = (c.in-Ok.ensures.status, c.in-Ok.ensures.report)
