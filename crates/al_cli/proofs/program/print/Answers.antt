use Rattle.std.proofs.Common.{◌≡◌}
use Rattle.al_cli.proofs.Endings.{fails_here, flushed}
use Rattle.al_cli.proofs.program.print.Goals as goal

pub returns-in_err-write_all : goal.returns-in_err-write_all
returns-in_err-write_all g c =
    let e : c.as_bytes.result.now ≡ c.args.text.now = cc in
    fails_here g.W.Write.contents c.args.writer.now c.write_all.new.self c.from_residual.result _ c.args.text.now c.from_residual.ensures.1
    (rw e at c.in_err-write_all.ensures)

pub returns : goal.returns
returns g c =
    let e : c.as_bytes.result.now ≡ c.args.text.now = cc in
    flushed g.W.Write.contents c.args.writer.now c.write_all.new.self c.flush.new.self c.flush.result c.args.text.now
    (rw e at c.in_ok-write_all.ensures.all) c.in_ok-write_all.ensures.failures c.flush.ensures.bytes c.flush.ensures.failures c.flush.ensures.failed
    c.flush.ensures.err
