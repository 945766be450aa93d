use Rattle.std.proofs.Common.{◌∙◌, refl, sym}
use Rattle.al_cli.proofs.Listing.{found_file, kept_more, kept_same, told_absent, told_file, told_outside}
use Rattle.al_cli.proofs.Turns.{taken_before, taken_now}
use Rattle.al_cli.proofs.gathering.Gathering.take.Goals as goal

pub returns-then-has-clause-taken : goal.returns-then-has-clause-taken
returns-then-has-clause-taken g c = taken_before c.args.self.now.files c.args.path.now (sym c.has.ensures ∙ c.if-has.true)

pub returns-then-has-clause-told : goal.returns-then-has-clause-told
returns-then-has-clause-told g c = found_file (g.D.Disk.holds c.args.disk.now c.args.root.now) c.args.path.now

pub returns-then-has-clause-held : goal.returns-then-has-clause-held
returns-then-has-clause-held g c = kept_same (g.D.Disk.holds c.args.disk.now c.args.root.now) c.args.self.now.files c.args.self.now.files refl

pub returns-in-Ok-clause-taken : goal.returns-in-Ok-clause-taken
returns-in-Ok-clause-taken g c =
    taken_now c.args.self.now.files c.put.new.self c.args.path.now _ (sym c.has.ensures ∙ c.if-has.false) c.in-Ok.ensures.put

pub returns-in-Ok-clause-told : goal.returns-in-Ok-clause-told
returns-in-Ok-clause-told g c = found_file (g.D.Disk.holds c.args.disk.now c.args.root.now) c.args.path.now

pub returns-in-Ok-clause-held : goal.returns-in-Ok-clause-held
returns-in-Ok-clause-held g c =
    kept_more (g.D.Disk.holds c.args.disk.now c.args.root.now) c.args.self.now.files c.put.new.self c.args.path.now _
    (told_file (g.D.Disk.holds c.args.disk.now c.args.root.now) c.args.path.now c.in-Ok-File.bytes
    (rw c.in-Ok-File.field-0-is at c.in-Ok-File.ensures.held)) c.in-Ok.ensures.put

pub returns-in-Ok-Absent-clause-told : goal.returns-in-Ok-Absent-clause-told
returns-in-Ok-Absent-clause-told g c =
    told_absent (g.D.Disk.holds c.args.disk.now c.args.root.now) c.args.path.now (rw c.in-Ok-Absent.field-0-is at c.in-Ok-Absent.ensures.held)

pub returns-in-Ok-Absent-clause-held : goal.returns-in-Ok-Absent-clause-held
returns-in-Ok-Absent-clause-held g c = kept_same (g.D.Disk.holds c.args.disk.now c.args.root.now) c.args.self.now.files c.args.self.now.files refl

pub returns-in-Ok-Outside-clause-told : goal.returns-in-Ok-Outside-clause-told
returns-in-Ok-Outside-clause-told g c =
    told_outside (g.D.Disk.holds c.args.disk.now c.args.root.now) c.args.path.now (rw c.in-Ok-Outside.field-0-is at c.in-Ok-Outside.ensures.held)

pub returns-in-Ok-Outside-clause-held : goal.returns-in-Ok-Outside-clause-held
returns-in-Ok-Outside-clause-held g c = kept_same (g.D.Disk.holds c.args.disk.now c.args.root.now) c.args.self.now.files c.args.self.now.files refl
