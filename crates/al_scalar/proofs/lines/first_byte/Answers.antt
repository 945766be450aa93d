use Rattle.std.proofs.Common.{arith}
use Rattle.al_scalar.proofs.LineCells.{cell_at, is_inside, never}
use Rattle.al_scalar.proofs.lines.first_byte.Goals as goal

pub returns-else-is_line_end : goal.returns-else-is_line_end
returns-else-is_line_end c =
    let bytes = c.args.bytes.now in
    let at = c.args.at in
    let here = is_inside bytes at c.requires (λ h. never (c.if-is_line_end.ensures.1 h)) in
    let cell = cell_at bytes at here.inside here.not_feed here.not_return in
    (cell.text, record { from = omega arith; inside = omega (arith, here.inside); same = cell.same })
