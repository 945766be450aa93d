use Rattle.al_scalar.proofs.LineCells.{never}
use Rattle.al_scalar.proofs.PlainLemmas.{blank_or_end-cell}
use Rattle.al_scalar.proofs.lines.is_blank_or_end.Goals as goal

pub returns-else-is_line_end : goal.returns-else-is_line_end
returns-else-is_line_end c = blank_or_end-cell c.args.bytes.now c.args.at c.is_blank.result c.requires (λ h. never (c.if-is_line_end.ensures.1 h)) c.is_blank.ensures
