use Rattle.std.proofs.Common.{◌∙◌, Some, None, sym, subst}
use Rattle.al_scalar.specs.Places.{lines_at, text_at}
use Rattle.al_scalar.specs.LineEnds.{BlankTo}
use Rattle.al_scalar.proofs.LineCells.{lines_at-some}
use Rattle.al_scalar.proofs.BlockLemmas.{indent_from-yes, indent_from-no, found-solid, found-last, found-next}
use Rattle.al_scalar.proofs.block.find_indent.Goals as goal

pub returns-then-within-found : goal.returns-then-within-found
returns-then-within-found c =
    let bytes = c.args.bytes.now in
    let i = c.blank_lines.i in
    let blank : BlankTo bytes i None = subst (λ b. BlankTo bytes i b) c.in-None.is c.blank_line_end.ensures in
    indent_from-yes c.args.within (text_at bytes i) c.indent-found.result (sym c.indent-found.ensures.is) c.if-within-found.true
    ∙ sym (c.blank_lines.invariant.found ∙ found-solid c.args.within (lines_at bytes i) (lines_at-some bytes i) blank)

pub returns-else-within-found : goal.returns-else-within-found
returns-else-within-found c =
    let bytes = c.args.bytes.now in
    let i = c.blank_lines.i in
    let blank : BlankTo bytes i None = subst (λ b. BlankTo bytes i b) c.in-None.is c.blank_line_end.ensures in
    indent_from-no c.args.within (text_at bytes i) c.indent-found.result (sym c.indent-found.ensures.is) c.if-within-found.false
    ∙ sym (c.blank_lines.invariant.found ∙ found-solid c.args.within (lines_at bytes i) (lines_at-some bytes i) blank)

pub returns-in-Some : goal.returns-in-Some
returns-in-Some c =
    let bytes = c.args.bytes.now in
    let i = c.blank_lines.i in
    let end = c.in-Some.end in
    let blank : BlankTo bytes i (Some end) = subst (λ b. BlankTo bytes i b) c.in-Some.is c.blank_line_end.ensures in
    sym (c.blank_lines.invariant.found ∙ found-last bytes c.args.within i end blank.0 blank.2.same c.if-end-bytes.true)

pub blank_lines-preserved : goal.blank_lines-preserved
blank_lines-preserved c =
    let bytes = c.args.bytes.now in
    let i = c.blank_lines.i in
    let end = c.in-Some.end in
    let next = c.after_break-i in
    let blank : BlankTo bytes i (Some end) = subst (λ b. BlankTo bytes i b) c.in-Some.is c.blank_line_end.ensures in
    record {
      inside = next.ensures.inside;
      found = c.blank_lines.invariant.found ∙ found-next bytes c.args.within i end next.result blank.0 blank.2.same next.ensures.lines;
    }
