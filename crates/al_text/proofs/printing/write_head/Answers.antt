use Rattle.std.specs.Prelude.{decimal}
use Rattle.al_base.proofs.Writing.{after, fails_early}
use Rattle.al_text.specs.Messages.{message}
use Rattle.al_text.specs.Wordings.{code_row}
use Rattle.al_text.specs.Private.Fragments.{position_text, message_line}
use Rattle.al_text.proofs.printing.write_head.Goals as goal

pub returns-in_err-write_position : goal.returns-in_err-write_position
returns-in_err-write_position g c =
    let a = c.args in
    fails_early _ _ _ _ _ (position_text a.path.now (decimal a.location.line) (decimal a.location.column))
    (message_line (message a.fault.now.code a.fault.now.args) ((code_row a.fault.now.code).kind)) c.from_residual.ensures.1
    (rw (c.format-line.ensures.text, c.format-column.ensures.text) at c.in_err-write_position.ensures)

pub returns : goal.returns
returns g c =
    let a = c.args in
    let position = rw (c.format-line.ensures.text, c.format-column.ensures.text) at c.in_ok-write_position.ensures in
    after _ _ _ _ _ (position_text a.path.now (decimal a.location.line) (decimal a.location.column))
    (message_line (message a.fault.now.code a.fault.now.args) ((code_row a.fault.now.code).kind)) position.all position.failures c.write_message.ensures
