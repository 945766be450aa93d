use Rattle.std.proofs.Common.{◌∙◌, ap, length, sym}
use Rattle.std.specs.Option.{option_copied}
use Rattle.std.proofs.lemmas.List.{length-map}
use Rattle.toy.specs.Lines.{line_spans}
use Rattle.toy.specs.Toy.{calls_of, target_of, toy}
use Rattle.toy.proofs.linter.ToyLint.check.Goals as goal

pub check_calls-requires : goal.check_calls-requires
check_calls-requires c =
    let bytes = c.args._bytes.now in
    sym (length-map c.args.answers.now (λ a. option_copied a)) ∙ ap length c.requires.answers.are
    ∙ length-map (toy.calls c.args._path.now bytes) c.requires.answers.answer ∙ length-map (calls_of bytes (line_spans bytes 0 0)) target_of
    ∙ ap length (sym c.requires.unit.calls_are) ∙ ap length (sym c.deref.ensures.value)
