use Rattle.std.proofs.Common.{◌∙◌, ap, refl}
use Rattle.al_scalar.specs.Line.{is_empty}
use Rattle.al_scalar.specs.LineEnds.{cells_between}
use Rattle.al_scalar.proofs.LineCells.{run_at, text-line_end, never}
use Rattle.al_scalar.proofs.PlainLemmas.{text_at-some}
use Rattle.al_scalar.proofs.RestLemmas.{solid_text}
use Rattle.al_scalar.proofs.lines.blank_line_end.Goals as goal

pub returns-then-is_line_end : goal.returns-then-is_line_end
returns-then-is_line_end c =
    let bytes = c.args.bytes.now in
    let at = c.args.at in
    let end = c.blanks_end-solid.result in
    let found = c.blanks_end-solid.ensures in
    let at_end = c.if-is_line_end.ensures.0 refl in (
      ap is_empty (solid_text bytes at end found.inside found.lines found.blanks found.not_blank ∙ text-line_end bytes end found.inside at_end),
      at_end,
      record { from = found.from; inside = found.inside; same = (run_at bytes at end (cells_between bytes at end) found.lines).same },
    )

pub returns-else-is_line_end : goal.returns-else-is_line_end
returns-else-is_line_end c =
    let bytes = c.args.bytes.now in
    let found = c.blanks_end-solid.ensures in
    ap is_empty (solid_text bytes c.args.at c.blanks_end-solid.result found.inside found.lines found.blanks found.not_blank)
    ∙ text_at-some bytes c.blanks_end-solid.result found.inside (λ h. never (c.if-is_line_end.ensures.1 h))
