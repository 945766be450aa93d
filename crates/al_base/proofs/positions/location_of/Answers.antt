use Rattle.std.proofs.Common.{◌≡◌, ◌∙◌, ◌+◌, arith, sym, ap, true, false, get_or}
use Rattle.al_base.specs.Positions.{ends_break, begins_char}
use Rattle.al_base.proofs.Counting.{line_at-break, line_at-same, column_at-break, column_at-char, column_at-inner}
use Rattle.al_base.proofs.LineBegins.{begins_after, begins_still}
use Rattle.al_base.proofs.positions.location_of.Goals as goal
use Rattle.al_base.proofs.positions.location_of.Goals.{then-is_break_end, else-is_break_end+then-is_char_start, else-is_break_end+else-is_char_start}

pub loop-at-preserved : goal.loop-at-preserved
loop-at-preserved c =
    let bytes = c.args.bytes.now in
    let k = c.loop-at.at in
    let i = c.loop-at.invariant in
    elim c.if-is_break_end.branch [
      | then-is_break_end w ↦
          let e : ends_break bytes k ≡ true = sym w.if-is_break_end.ensures in
          let l = line_at-break bytes k e in
          record {
            line = w.line-is ∙ ap (λ n. n + 1) i.line ∙ sym l;
            column = w.column-is ∙ sym (column_at-break bytes k e);
            line_small = omega arith;
            column_small = omega arith;
            start = rw w.start-is (begins_after bytes k e);
          }
      | else-is_break_end+then-is_char_start w ↦
          let e : ends_break bytes k ≡ false = sym w.if-is_break_end.ensures in
          let b : begins_char (get_or bytes k 0) ≡ true = sym w.if-is_char_start.ensures in
          record {
            line = w.line-is ∙ i.line ∙ sym (line_at-same bytes k e);
            column = w.column-is ∙ ap (λ n. n + 1) i.column ∙ sym (column_at-char bytes k e b);
            line_small = omega arith;
            column_small = omega arith;
            start = rw w.start-is (begins_still bytes k c.loop-at.start e i.start);
          }
      | else-is_break_end+else-is_char_start w ↦
          let e : ends_break bytes k ≡ false = sym w.if-is_break_end.ensures in
          let b : begins_char (get_or bytes k 0) ≡ false = sym w.if-is_char_start.ensures in
          record {
            line = w.line-is ∙ i.line ∙ sym (line_at-same bytes k e);
            column = w.column-is ∙ i.column ∙ sym (column_at-inner bytes k e b);
            line_small = omega arith;
            column_small = omega arith;
            start = rw w.start-is (begins_still bytes k c.loop-at.start e i.start);
          }
    ]
