use Rattle.std.proofs.Common.{arith}
use Rattle.al_scalar.proofs.LineCells.{never}
use Rattle.al_scalar.proofs.BlankLemmas.{no_blank_line, text_found, text_more}
use Rattle.al_scalar.proofs.plain.text_line.Goals as goal

pub returns-then-not-is_break_at-clause-lines : goal.returns-then-not-is_break_at-clause-lines
returns-then-not-is_break_at-clause-lines c =
    let found = c.blanks_end-solid in
    text_found c.args.bytes.now c.blank_lines.start found.result found.ensures.inside found.ensures.lines found.ensures.blanks (λ h. never (c.if-not-is_break_at.ensures.1 h)) found.ensures.not_blank
    c.args.from c.blank_lines.invariant.lines

pub returns-then-not-is_break_at-clause-text : goal.returns-then-not-is_break_at-clause-text
returns-then-not-is_break_at-clause-text c =
    let found = c.blanks_end-solid in
    no_blank_line c.args.bytes.now c.blank_lines.start found.result found.ensures.inside found.ensures.lines found.ensures.blanks
    (λ h. never (c.if-not-is_break_at.ensures.1 h)) found.ensures.not_blank

pub blank_lines-preserved : goal.blank_lines-preserved
blank_lines-preserved c =
    let found = c.blanks_end-solid in
    let next = c.after_break-start in
    record {
      from = omega (arith, c.blank_lines.invariant.from, found.ensures.from, next.ensures.after);
      inside = next.ensures.inside;
      lines = text_more c.args.bytes.now c.blank_lines.start found.result found.ensures.inside found.ensures.lines found.ensures.blanks
          next.result next.ensures.lines c.args.from c.blank_lines.invariant.lines;
    }
