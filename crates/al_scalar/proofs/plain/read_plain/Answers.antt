use Rattle.std.proofs.Common.{◌∙◌, ◌++◌, List, ap, arith}
use Rattle.al_scalar.specs.Line.{Line}
use Rattle.al_scalar.specs.Places.{lines_at}
use Rattle.al_scalar.specs.LineEnds.{cells_between, later}
use Rattle.al_scalar.specs.Taken.{folded_break}
use Rattle.al_scalar.specs.Private.PlainLines.{context_of, empty_ends, here_at}
use Rattle.al_scalar.proofs.LineCells.{run_at, same_then, never}
use Rattle.al_scalar.proofs.RestLemmas.{solid_text}
use Rattle.al_scalar.proofs.PlainReadLemmas.{read_first, read_done, found_at, read_stopped, read_more, read_key}
use Rattle.al_scalar.proofs.plain.read_plain.Goals as goal

pub text_lines-init : goal.text_lines-init
text_lines-init c =
    let found = c.plain_end-end.ensures in
    record {
      from = found.from;
      inside = found.inside;
      read = read_first (context_of c.args.context) c.args.bytes.now c.args.at c.plain_end-end.result found.inside found.part found.same c.new-text.ensures c.in_ok-push_run.ensures;
    }

pub returns-then-not-is_break_at-clause-gives : goal.returns-then-not-is_break_at-clause-gives
returns-then-not-is_break_at-clause-gives c =
    let line = c.blanks_end-line_end in
    read_done (context_of c.args.context) c.args.bytes.now c.text_lines.end line.result c.text_lines.text c.text_lines.invariant.read line.ensures.inside line.ensures.lines line.ensures.blanks
    (λ h. never (c.if-not-is_break_at.ensures.1 h)) line.ensures.not_blank

pub goes_on-requires-clause-solid : goal.goes_on-requires-clause-solid
goes_on-requires-clause-solid c =
    let solid = c.blanks_end-solid in
    solid_text c.args.bytes.now c.text_line-start.result solid.result solid.ensures.inside solid.ensures.lines solid.ensures.blanks solid.ensures.not_blank

pub returns-then-not-goes_on-clause-gives : goal.returns-then-not-goes_on-clause-gives
returns-then-not-goes_on-clause-gives c =
    let bytes = c.args.bytes.now in
    let p = context_of c.args.context in
    let line = c.blanks_end-line_end in
    let next = c.after_break-next in
    let start = c.text_line-start in
    let solid = c.blanks_end-solid in
    let text = c.text_lines.text in
    let ahead = found_at p bytes c.text_lines.end line.result next.result start.result text c.text_lines.invariant.read line.ensures.lines line.ensures.blanks next.ensures.lines start.ensures.lines in
    read_stopped p bytes c.text_lines.end line.result start.result solid.result (empty_ends (lines_at bytes next.result)) text ahead start.ensures.text
    (solid_text bytes start.result solid.result solid.ensures.inside solid.ensures.lines solid.ensures.blanks solid.ensures.not_blank) c.if-not-goes_on.ensures

pub returns-then-makes_key-clause-gives : goal.returns-then-makes_key-clause-gives
returns-then-makes_key-clause-gives c =
    let bytes = c.args.bytes.now in
    let p = context_of c.args.context in
    let line = c.blanks_end-line_end in
    let next = c.after_break-next in
    let start = c.text_line-start in
    let solid = c.blanks_end-solid in
    let end = c.plain_end-part_end in
    let rest = c.blanks_end-rest in
    let text = c.text_lines.text in
    let ahead = found_at p bytes c.text_lines.end line.result next.result start.result text c.text_lines.invariant.read line.ensures.lines line.ensures.blanks next.ensures.lines start.ensures.lines in
    read_key p bytes start.result solid.result end.result rest.result
    (solid_text bytes start.result solid.result solid.ensures.inside solid.ensures.lines solid.ensures.blanks solid.ensures.not_blank) c.if-not-goes_on.ensures end.ensures.part
    (solid_text bytes end.result rest.result rest.ensures.inside rest.ensures.lines rest.ensures.blanks rest.ensures.not_blank)
    (here_at bytes c.text_lines.end) line.result (empty_ends (lines_at bytes next.result)) text rest.ensures.inside c.if-makes_key.ensures ahead

pub text_lines-preserved : goal.text_lines-preserved
text_lines-preserved c =
    let bytes = c.args.bytes.now in
    let p = context_of c.args.context in
    let line = c.blanks_end-line_end in
    let next = c.after_break-next in
    let start = c.text_line-start in
    let solid = c.blanks_end-solid in
    let end = c.plain_end-part_end in
    let rest = c.blanks_end-rest in
    let text = c.text_lines.text in
    let ahead = found_at p bytes c.text_lines.end line.result next.result start.result text c.text_lines.invariant.read line.ensures.lines line.ensures.blanks next.ensures.lines start.ensures.lines in
    let folded = c.in_ok-fold_break.ensures.text ∙ ap (λ (ls : List Line). text ++ folded_break line.result (empty_ends (later ls))) next.ensures.lines in
    let same = same_then (run_at bytes start.result solid.result (cells_between bytes start.result solid.result) solid.ensures.lines).same end.ensures.same in
    record {
      from = omega (arith, c.text_lines.invariant.from, line.ensures.from, next.ensures.after, start.ensures.from, solid.ensures.from, end.ensures.from);
      inside = end.ensures.inside;
      read = read_more p bytes start.result solid.result end.result rest.result
          (solid_text bytes start.result solid.result solid.ensures.inside solid.ensures.lines solid.ensures.blanks solid.ensures.not_blank) c.if-not-goes_on.ensures end.ensures.part
          (solid_text bytes end.result rest.result rest.ensures.inside rest.ensures.lines rest.ensures.blanks rest.ensures.not_blank)
          (here_at bytes c.text_lines.end) line.result (empty_ends (lines_at bytes next.result)) text c.if-makes_key.ensures
          end.ensures.inside same ahead folded c.in_ok-push_run-2.ensures;
    }
