use Rattle.std.proofs.Common.{◌∙◌, arith}
use Rattle.al_scalar.specs.Places.{lines_at}
use Rattle.al_scalar.specs.Private.PlainLines.{empty_ends}
use Rattle.al_scalar.proofs.LineCells.{never}
use Rattle.al_scalar.proofs.BlankLemmas.{solid_found, solid_more, no_ends, ends_more, given-space, given-none, given-more}
use Rattle.al_scalar.proofs.folding.fold_break.Goals as goal

pub returns-in_ok-push-clause-lines : goal.returns-in_ok-push-clause-lines
returns-in_ok-push-clause-lines c =
    let found = c.blanks_end-solid.ensures in
    c.empty_lines.invariant.lines ∙ solid_found c.args.bytes.now c.empty_lines.start c.blanks_end-solid.result found.inside found.lines found.blanks
    (λ h. never (c.if-not-is_break_at.ensures.1 h)) found.not_blank found.dropped

pub returns-in_ok-push-clause-text : goal.returns-in_ok-push-clause-text
returns-in_ok-push-clause-text c =
    let bytes = c.args.bytes.now in
    let found = c.blanks_end-solid.ensures in
    given-space c.empty_lines.folded c.args.end c.empty_lines.text (empty_ends (lines_at bytes c.empty_lines.start)) c.if-not-folded.true
    (no_ends bytes c.empty_lines.start c.blanks_end-solid.result found.inside found.lines found.blanks (λ h. never (c.if-not-is_break_at.ensures.1 h)) found.not_blank)
    c.empty_lines.invariant.text c.in_ok-push.ensures

pub returns-else-not-folded-clause-lines : goal.returns-else-not-folded-clause-lines
returns-else-not-folded-clause-lines c =
    let found = c.blanks_end-solid.ensures in
    c.empty_lines.invariant.lines ∙ solid_found c.args.bytes.now c.empty_lines.start c.blanks_end-solid.result found.inside found.lines found.blanks
    (λ h. never (c.if-not-is_break_at.ensures.1 h)) found.not_blank found.dropped

pub returns-else-not-folded-clause-text : goal.returns-else-not-folded-clause-text
returns-else-not-folded-clause-text c =
    let bytes = c.args.bytes.now in
    let found = c.blanks_end-solid.ensures in
    given-none c.empty_lines.folded c.args.end c.empty_lines.text (empty_ends (lines_at bytes c.empty_lines.start)) c.if-not-folded.false
    (no_ends bytes c.empty_lines.start c.blanks_end-solid.result found.inside found.lines found.blanks (λ h. never (c.if-not-is_break_at.ensures.1 h)) found.not_blank)
    c.empty_lines.invariant.text

pub empty_lines-preserved : goal.empty_lines-preserved
empty_lines-preserved c =
    let bytes = c.args.bytes.now in
    let found = c.blanks_end-solid.ensures in
    let next = c.after_break-start-in-empty_lines in
    let start = c.empty_lines.start in
    let solid = c.blanks_end-solid.result in
    record {
      inside = next.ensures.inside;
      after = omega arith;
      lines = c.empty_lines.invariant.lines ∙ solid_more bytes start solid found.inside found.lines found.blanks next.result next.ensures.lines;
      text = given-more c.empty_lines.folded c.args.end solid c.empty_lines.text (empty_ends (lines_at bytes start)) (empty_ends (lines_at bytes next.result))
          (ends_more bytes start solid found.inside found.lines found.blanks next.result next.ensures.lines) c.empty_lines.invariant.text c.in_ok-push-2.ensures;
    }
