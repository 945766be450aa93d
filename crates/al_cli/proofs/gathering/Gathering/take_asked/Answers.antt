use Rattle.std.proofs.Common.{[], rules, ◌≡◌, ◌≢◌}
use Rattle.std.proofs.lemmas.Grind.{common_steps}
use Rattle.al_session.specs.Folder.{paths_of}
use Rattle.al_cli.proofs.Endings.{asked_listed, asked_named}
use Rattle.al_cli.proofs.gathering.Gathering.take_asked.Goals as goal

pub returns-then-is_empty-clause-asked : goal.returns-then-is_empty-clause-asked
returns-then-is_empty-clause-asked g c =
    let none : c.args.words.now.files.items ≡ [] = search (rules, common_steps) in
    asked_listed (g.D.Disk.holds c.args.disk.now c.args.words.now.root.now) c.args.words.now.files.items (paths_of c.take_listed.new.self.files)
    c.take_listed.result none c.take_listed.ensures.files c.take_listed.ensures.listed

pub returns-clause-asked : goal.returns-clause-asked
returns-clause-asked g c =
    let some : c.args.words.now.files.items ≢ [] = search (rules, common_steps) in
    asked_named (g.D.Disk.holds c.args.disk.now c.args.words.now.root.now) c.args.words.now.files.items (paths_of c.take_named.new.self.files)
    c.take_named.result some (rw c.deref.ensures.value at c.take_named.ensures.files)
