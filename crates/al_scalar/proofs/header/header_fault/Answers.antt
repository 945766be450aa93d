use Rattle.std.proofs.Common.{refl, arith}
use Rattle.al_scalar.proofs.LineCells.{is_inside, never}
use Rattle.al_scalar.proofs.HeaderLemmas.{header-ended, header-other, header-close, header-comment}
use Rattle.al_scalar.proofs.header.header_fault.Goals as goal

pub returns-then-is_line_end-clause-ends : goal.returns-then-is_line_end-clause-ends
returns-then-is_line_end-clause-ends c = λ h.
    let found = c.blanks_end-solid.ensures in
    header-ended c.args.bytes.now c.args.at c.blanks_end-solid.result found.inside found.blanks found.lines found.not_blank h (c.if-is_line_end.ensures.0 refl)

pub returns-then-bytes-solid-ne35-clause-ends : goal.returns-then-bytes-solid-ne35-clause-ends
returns-then-bytes-solid-ne35-clause-ends c = λ h.
    let bytes = c.args.bytes.now in
    let solid = c.blanks_end-solid.result in
    let found = c.blanks_end-solid.ensures in
    let here = is_inside bytes solid found.inside (λ h. never (c.if-is_line_end.ensures.1 h)) in
    header-other bytes c.args.at solid found.inside found.blanks found.lines found.not_blank h here c.if-bytes-solid-ne35.true

pub returns-then-at-solid-clause-ends : goal.returns-then-at-solid-clause-ends
returns-then-at-solid-clause-ends c = λ h.
    let bytes = c.args.bytes.now in
    let solid = c.blanks_end-solid.result in
    let found = c.blanks_end-solid.ensures in
    let here = is_inside bytes solid found.inside (λ h. never (c.if-is_line_end.ensures.1 h)) in
    header-close bytes c.args.at solid found.inside found.blanks found.lines found.not_blank h here c.if-at-solid.true

pub returns-clause-ends : goal.returns-clause-ends
returns-clause-ends c = λ h.
    let bytes = c.args.bytes.now in
    let solid = c.blanks_end-solid.result in
    let found = c.blanks_end-solid.ensures in
    let here = is_inside bytes solid found.inside (λ h. never (c.if-is_line_end.ensures.1 h)) in
    header-comment bytes c.args.at solid found.inside found.blanks found.lines found.not_blank h here (omega (arith, found.from, c.if-at-solid.false)) c.if-bytes-solid-ne35.false
