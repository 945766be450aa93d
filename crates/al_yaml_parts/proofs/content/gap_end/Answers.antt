use Rattle.std.proofs.Common.{ap, ◌∙◌}
use Rattle.al_scalar.specs.Line.{blanks_dropped}
use Rattle.al_scalar.specs.Places.{lines_at}
use Rattle.al_yaml_tree.specs.Content.{text_line}
use Rattle.al_yaml_parts.proofs.ContentLemmas.{gap_lines, gap_solid}
use Rattle.al_yaml_parts.proofs.content.gap_end.Goals as goal

pub returns-then-bytes-at-gt35-clause-lines : goal.returns-then-bytes-at-gt35-clause-lines
returns-then-bytes-at-gt35-clause-lines c = gap_solid c.args.bytes.now c.args.at c.if-at-bytes.true c.if-bytes-at-gt35.true

pub returns-clause-lines : goal.returns-clause-lines
returns-clause-lines c =
    gap_lines (lines_at c.args.bytes.now c.args.at) c.if-not-ends_line.ensures ∙ ap (λ ls. blanks_dropped (text_line ls)) c.next_line.ensures.lines
    ∙ ap blanks_dropped c.next_text_line.ensures.lines ∙ c.blanks_end.ensures.dropped
