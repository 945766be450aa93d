use Rattle.al_scalar.proofs.LineCells.{never}
use Rattle.al_scalar.proofs.MarkerLemmas.{begins-cell_at}
use Rattle.al_scalar.proofs.lines.begins.Goals as goal

pub returns-then-not-is_line_end-clause-value : goal.returns-then-not-is_line_end-clause-value
returns-then-not-is_line_end-clause-value c = begins-cell_at c.args.bytes.now c.args.at c.args.byte c.requires (λ h. never (c.if-not-is_line_end.ensures.1 h))
