use Rattle.std.proofs.Common.{◌-◌, ◌<◌, Some, subst, arith, length}
use Rattle.al_scalar.specs.Private.BlockRead.{RowStarts}
use Rattle.al_scalar.proofs.RowLemmas.{rows-last, rows-more}
use Rattle.al_scalar.proofs.block.read_rows.Goals as goal

pub rows-smaller : goal.rows-smaller
rows-smaller c =
    let bytes = c.args.bytes.now in
    let start : RowStarts bytes c.rows.i c.args.style.indent c.rows.found (Some c.in-Some.start) = subst
    (λ r. RowStarts bytes c.rows.i c.args.style.indent c.rows.found r) c.in-Some.is c.row_start.ensures in
    let less : length bytes - c.after_break-i.result < length bytes - c.rows.i = omega
    (arith, start.on_line.from, c.line_end-stop.ensures.on_line.from, c.after_break-i.ensures.after, c.after_break-i.ensures.inside) in
    less

pub rows-preserved : goal.rows-preserved
rows-preserved c =
    let bytes = c.args.bytes.now in
    let i = c.rows.i in
    let found = c.rows.found in
    let start : RowStarts bytes i c.args.style.indent found (Some c.in-Some.start) = subst (λ r. RowStarts bytes i c.args.style.indent found r) c.in-Some.is c.row_start.ensures in
    let line = c.line_end-stop.ensures in
    record {
      from = omega (arith, c.rows.invariant.from, c.in_ok-add_row.ensures.within.0);
      after = omega (arith, c.in_ok-add_row.ensures.within.1, c.after_break-i.ensures.after);
      inside = c.after_break-i.ensures.inside;
      rows = rows-more c.args.style found c.in-Some.start.is_blank c.rows.state c.add_row.new.state bytes i c.in-Some.start.from c.line_end-stop.result c.after_break-i.result
          c.rows.invariant.rows start.row start.on_line.same line.on_line.same line.text c.after_break-i.ensures.lines start.blank
          c.in_ok-add_row.ensures.text c.in_ok-add_row.ensures.end;
    }

pub returns-then-stop-bytes-clause-rows : goal.returns-then-stop-bytes-clause-rows
returns-then-stop-bytes-clause-rows c =
    let bytes = c.args.bytes.now in
    let i = c.rows.i in
    let found = c.rows.found in
    let start : RowStarts bytes i c.args.style.indent found (Some c.in-Some.start) = subst (λ r. RowStarts bytes i c.args.style.indent found r) c.in-Some.is c.row_start.ensures in
    let line = c.line_end-stop.ensures in
    rows-last c.args.style found c.rows.state c.end_row.new.state bytes i c.in-Some.start.from c.line_end-stop.result c.rows.invariant.rows
    start.row start.on_line.same line.on_line.same line.text c.if-stop-bytes.true c.in_ok-end_row.ensures.text c.in_ok-end_row.ensures.end
