use Rattle.std.proofs.Common.{◌∙◌}
use Rattle.al_cli.specs.Taken.{called_by}
use Rattle.al_cli.proofs.Turns.{among_more}
use Rattle.al_cli.proofs.gathering.Candidates.add.Goals as goal

pub returns : goal.returns
returns c =
    among_more _ (called_by c.args.files.now) c.args.self.now.waiting.keys c.insert.new.self.keys c.in_ok-from_str.field-0 c.args.path.now
    c.requires.waiting (c.in_ok-from_str.ensures.ok ∙ c.as_str-text.ensures.text) c.requires.called c.in_ok-insert.ensures.keys
