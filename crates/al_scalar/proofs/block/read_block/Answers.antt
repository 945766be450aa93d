use Rattle.al_base.specs.declared.codes.YamlCode.TheVariants.{WrongBlockHeader}
use Rattle.std.proofs.Common.{◌∙◌, ◌≤◌, Some, None, Ok, is_some, length, ap, arith}
use Rattle.al_scalar.specs.Taken.{Taken}
use Rattle.al_scalar.specs.Places.{first_text, lines_at}
use Rattle.al_scalar.specs.Block.{header_end, content_indent}
use Rattle.al_scalar.specs.Private.BlockRead.{EndsHeader}
use Rattle.al_scalar.proofs.LineCells.{is_inside}
use Rattle.al_scalar.proofs.BlockSteps.{block-fault, block-last, block-more, rest-style}
use Rattle.al_scalar.proofs.block.read_block.Goals as goal

pub returns-in-Some-clause-gives : goal.returns-in-Some-clause-gives
returns-in-Some-clause-gives c =
    let bytes = c.args.bytes.now in
    let at = c.args.at in
    let here = is_inside bytes at (omega (arith, c.requires.inside)) c.requires.begins in
    let h = c.indicators-header.result in
    let ends : EndsHeader bytes h.end (Some c.in-Some.place) = c.in-Some.ensures.ends in
    block-fault c.args.kind.literal c.args.kind.within bytes at here h.end (header_end h (first_text (lines_at bytes h.end))) c.indicators-header.ensures.given
    (record { code = WrongBlockHeader; at = c.in-Some.place }) (ends h)

pub returns-then-end-bytes-clause-gives : goal.returns-then-end-bytes-clause-gives
returns-then-end-bytes-clause-gives c =
    let bytes = c.args.bytes.now in
    let at = c.args.at in
    let here = is_inside bytes at (omega (arith, c.requires.inside)) c.requires.begins in
    let h = c.indicators-header.result in
    let ends : EndsHeader bytes h.end None = c.in_default.ensures.ends in
    block-last c.args.kind.literal c.args.kind.within bytes at here h.end (header_end h (first_text (lines_at bytes h.end))) c.indicators-header.ensures.given
    h c.new-text.result c.line_end-end.result (ends h) c.indicators-header.ensures.on_line.same c.line_end-end.ensures.on_line.same c.if-end-bytes.true c.new-text.ensures

pub returns-clause-gives : goal.returns-clause-gives
returns-clause-gives c =
    let bytes = c.args.bytes.now in
    let at = c.args.at in
    let here = is_inside bytes at (omega (arith, c.requires.inside)) c.requires.begins in
    let h = c.indicators-header.result in
    let first = c.after_break-first.result in
    let ends : EndsHeader bytes h.end None = c.in_default.ensures.ends in
    block-more c.args.kind.literal c.args.kind.within bytes at here h.end (header_end h (first_text (lines_at bytes h.end))) c.indicators-header.ensures.given
    h c.line_end-end.result first (ends h) c.indicators-header.ensures.on_line.same c.line_end-end.ensures.on_line.same c.after_break-first.ensures.lines
    ∙ ap (λ (t : Taken). Ok t) (rest-style c.args.kind.literal h.chomping (content_indent h.digit c.args.kind.within (lines_at bytes first)) c.content_indent.result
    (is_some h.digit) c.is_some.result c.new.result.items h.end c.new-text.result (lines_at bytes first) c.content_indent.ensures c.is_some.ensures
    c.new.ensures.items c.new-text.ensures ∙ c.in_ok-next.ensures.rows)

pub returns-in-Some-clause-within : goal.returns-in-Some-clause-within
returns-in-Some-clause-within c =
    let n = length c.args.bytes.now in
    let from = c.indicators-header.result.end in
    let within : (from ≤ c.in-Some.place) × (c.in-Some.place ≤ n) = c.in-Some.ensures.within in
    (omega (arith, within.0, c.indicators-header.ensures.on_line.from), within.1)
