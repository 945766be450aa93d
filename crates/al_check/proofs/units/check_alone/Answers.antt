use Rattle.std.proofs.Common.{◌∙◌, None, refl}
use Rattle.al_check.proofs.Given.{interface_shown, none_called}
use Rattle.al_check.proofs.units.check_alone.Goals as goal

pub file_faults-requires-clause-answers : goal.file_faults-requires-clause-answers
file_faults-requires-clause-answers c =
    let has = none_called c.args.file.now c.args.source.kind c.args.source.bytes.now c.requires.read c.requires.alone in
    record { answer = λ _. None; are = rw (← has.targets) refl }

pub returns : goal.returns
returns c = record {
  interface = c.in_ok-interface.ensures ∙ interface_shown c.args.file.now c.args.source.kind c.args.source.bytes.now c.requires.read;
  calls = none_called c.args.file.now c.args.source.kind c.args.source.bytes.now c.requires.read c.requires.alone;
  faults = c.in_ok-faults.ensures;
}
