use Rattle.std.proofs.KnownBytes.{Keeps-refl}
use Rattle.al_base.specs.Streams.{bytes_written}
use Rattle.al_cli.proofs.Endings.{folder_reported}
use Rattle.al_cli.proofs.program.lint_folder.Goals as goal

pub returns-in-Ok : goal.returns-in-Ok
returns-in-Ok g c =
    folder_reported c.args.words.now (g.D.Disk.holds c.args.disk.now) c.in-Ok.gathered.files.folder
    (bytes_written g.W.Write.contents c.args.writer.now) (bytes_written g.W.Write.contents c.report_gathered.new.writer) c.report_gathered.result
    c.in-Ok.ensures.gathered (rw c.format_in.ensures at c.report_gathered.ensures)

pub returns-in-Err : goal.returns-in-Err
returns-in-Err g c = Keeps-refl (bytes_written g.W.Write.contents c.args.writer.now)
