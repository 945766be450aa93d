use Rattle.al_cli.proofs.Endings.{script_flushed}
use Rattle.al_cli.proofs.program.answer_script.Goals as goal

pub returns-in-Ok : goal.returns-in-Ok
returns-in-Ok g c =
    script_flushed c.args.format g.R.Read.remaining g.W.Write.contents c.args.reader.now c.run_script.new.reader c.args.writer.now
    c.run_script.new.writer c.end_script.new.writer c.in-Ok.status c.end_script.result c.in-Ok.ensures c.end_script.ensures
