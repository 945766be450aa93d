use Rattle.std.proofs.Common.{◌+◌, refl, arith}
use Rattle.al_scalar.specs.Places.{text_at}
use Rattle.al_scalar.proofs.LineCells.{lines-at_end}
use Rattle.al_scalar.proofs.RestLemmas.{start-at}
use Rattle.al_yaml_parts.proofs.ContentLemmas.{skipped-solid}
use Rattle.al_yaml_parts.proofs.DocumentLemmas.{marker-after}
use Rattle.al_yaml_parts.proofs.document_edges.document_end.Goals as goal

pub returns-then-line-bytes-clause-is : goal.returns-then-line-bytes-clause-is
returns-then-line-bytes-clause-is c =
    rw (c.next_text_line-line.ensures.lines, lines-at_end c.args.bytes.now c.next_text_line-line.result c.if-line-bytes.true) refl

pub returns-then-is_marker-clause-is : goal.returns-then-is_marker-clause-is
returns-then-is_marker-clause-is c =
    let line = c.next_text_line-line in
    let text = line.ensures.text (omega (arith, line.ensures.inside, c.if-line-bytes.false)) in
    rw (c.new.ensures, line.ensures.lines, ← skipped-solid (text_at c.args.bytes.now line.result) text, ← c.if-is_marker.ensures, start-at c.args.bytes.now line.result line.ensures.inside) refl

pub next_text_line-after-requires : goal.next_text_line-after-requires
next_text_line-after-requires c =
    let line = c.next_text_line-line in
    (marker-after c.args.bytes.now line.result 46 line.ensures.inside c.if-is_marker-2.ensures).1

pub returns-then-after-bytes-clause-is : goal.returns-then-after-bytes-clause-is
returns-then-after-bytes-clause-is c =
    let line = c.next_text_line-line in
    let text = line.ensures.text (omega (arith, line.ensures.inside, c.if-line-bytes.false)) in
    rw (
      line.ensures.lines,
      ← skipped-solid (text_at c.args.bytes.now line.result) text,
      ← c.if-is_marker.ensures,
      ← c.if-is_marker-2.ensures,
      (marker-after c.args.bytes.now line.result 46 line.ensures.inside c.if-is_marker-2.ensures).0,
      c.next_text_line-after.ensures.lines,
      lines-at_end c.args.bytes.now c.next_text_line-after.result c.if-after-bytes.true,
    ) refl

pub returns-then-is_marker-2-clause-is : goal.returns-then-is_marker-2-clause-is
returns-then-is_marker-2-clause-is c =
    let line = c.next_text_line-line in
    let after = c.next_text_line-after in
    let text = line.ensures.text (omega (arith, line.ensures.inside, c.if-line-bytes.false)) in
    let later = after.ensures.text (omega (arith, after.ensures.inside, c.if-after-bytes.false)) in
    rw (
      c.new-then-is_marker-2.ensures,
      line.ensures.lines,
      ← skipped-solid (text_at c.args.bytes.now line.result) text,
      ← c.if-is_marker.ensures,
      ← c.if-is_marker-2.ensures,
      (marker-after c.args.bytes.now line.result 46 line.ensures.inside c.if-is_marker-2.ensures).0,
      after.ensures.lines,
      ← skipped-solid (text_at c.args.bytes.now after.result) later,
      c.blanks_end.ensures.dropped,
      start-at c.args.bytes.now c.blanks_end.result c.blanks_end.ensures.inside,
    ) refl

pub returns-then-begins-clause-is : goal.returns-then-begins-clause-is
returns-then-begins-clause-is c =
    let line = c.next_text_line-line in
    let text = line.ensures.text (omega (arith, line.ensures.inside, c.if-line-bytes.false)) in
    let here = start-at c.args.bytes.now (line.result + c.indent.result) c.indent.ensures.inside in
    rw (
      c.new-then-begins.ensures,
      line.ensures.lines,
      ← skipped-solid (text_at c.args.bytes.now line.result) text,
      ← c.if-is_marker.ensures,
      ← c.if-is_marker-2.ensures,
      c.indent.ensures.dropped,
      ← c.if-begins.ensures.value,
      here,
    ) refl

pub returns-clause-is : goal.returns-clause-is
returns-clause-is c =
    let line = c.next_text_line-line in
    let text = line.ensures.text (omega (arith, line.ensures.inside, c.if-line-bytes.false)) in
    let here = start-at c.args.bytes.now (line.result + c.indent.result) c.indent.ensures.inside in
    rw (
      c.new-2.ensures,
      line.ensures.lines,
      ← skipped-solid (text_at c.args.bytes.now line.result) text,
      ← c.if-is_marker.ensures,
      ← c.if-is_marker-2.ensures,
      c.indent.ensures.dropped,
      ← c.if-begins.ensures.value,
      here,
    ) refl
