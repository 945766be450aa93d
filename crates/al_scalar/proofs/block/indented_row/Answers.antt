use Rattle.std.proofs.Common.{◌∙◌, Some, None, ap, sym, subst}
use Rattle.al_scalar.specs.Places.{first_text, lines_at}
use Rattle.al_scalar.specs.LineEnds.{BlankTo}
use Rattle.al_scalar.proofs.LineCells.{text-line_end}
use Rattle.al_scalar.proofs.BlockLemmas.{indented-same, indented-yes, indented-no, row-blank, row-none, blank-is}
use Rattle.al_scalar.proofs.block.indented_row.Goals as goal

pub returns-then-from-at : goal.returns-then-from-at
returns-then-from-at c =
    let bytes = c.args.bytes.now in
    let found = c.spaces_end-from.ensures in
    let at = c.args.at in
    let from = c.spaces_end-from.result in
    record {
      row = indented-yes bytes at from c.args.indent found.from found.inside found.spaces found.lines c.if-from-at.true;
      blank = blank-is bytes at c.args.blank c.requires.blank ∙ sym c.is_some.ensures;
      on_line = record { from = found.from; inside = found.inside; same = indented-same bytes at from c.args.indent found.from found.inside found.spaces found.lines };
    }

pub returns : goal.returns
returns c =
    let bytes = c.args.bytes.now in
    let found = c.spaces_end-from.ensures in
    let at = c.args.at in
    let from = c.spaces_end-from.result in
    let end = c.in_ok-end.end in
    let blank : BlankTo bytes at (Some end) = subst (λ b. BlankTo bytes at b) c.in_ok-end.was c.requires.blank in
    record {
      row = row-blank c.args.indent (first_text (lines_at bytes at))
          (indented-no bytes at from c.args.indent found.from found.inside found.spaces found.lines found.most c.if-from-at.false
          found.stops) blank.0
          ∙ ap Some (sym (text-line_end bytes end blank.2.inside blank.1));
      blank = blank.0;
      on_line = blank.2;
    }

pub returns-in_err-end : goal.returns-in_err-end
returns-in_err-end c =
    let bytes = c.args.bytes.now in
    let found = c.spaces_end-from.ensures in
    let at = c.args.at in
    let from = c.spaces_end-from.result in
    let blank : BlankTo bytes at None = subst (λ b. BlankTo bytes at b) c.in_err-end.was c.requires.blank in
    let none = c.from_residual.ensures in
    let short = indented-no bytes at from c.args.indent found.from found.inside found.spaces found.lines found.most c.if-from-at.false found.stops in
    rw none (row-none c.args.indent (first_text (lines_at bytes at)) short blank)
