use Rattle.std.proofs.Common.{ap, ◌∙◌}
use Rattle.al_session_folder.specs.Folder.{with_file}
use Rattle.al_session_folder.specs.Kept.{folder_of}
use Rattle.al_session.proofs.Puts.{put_kept}
use Rattle.al_session.proofs.builder.load_file.Goals as goal

pub returns-clause-loaded : goal.returns-clause-loaded
returns-clause-loaded g c =
    let put = put_kept g.L.Lint.meaning g.L.Lint.is_unit c.args.path.now c.args.kept.now.files.entries c.requires.loaded.kept c.in_ok-file.file
    c.keep_file.new.kept.files.entries c.in_ok-file.ensures.kept c.in_ok-keep_file.ensures.files in
    record { kept = put.0; index = rw (← put.1) at c.in_ok-keep_file.ensures.index }

pub returns-clause-folder : goal.returns-clause-folder
returns-clause-folder g c =
    let put = put_kept g.L.Lint.meaning g.L.Lint.is_unit c.args.path.now c.args.kept.now.files.entries c.requires.loaded.kept c.in_ok-file.file
    c.keep_file.new.kept.files.entries c.in_ok-file.ensures.kept c.in_ok-keep_file.ensures.files in
    put.1 ∙ ap (with_file (folder_of c.args.kept.now.files.entries) c.args.path.now) c.in_ok-file.ensures.bytes
