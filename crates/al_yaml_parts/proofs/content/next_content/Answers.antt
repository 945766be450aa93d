use Rattle.std.proofs.Common.{◌+◌, refl, arith}
use Rattle.al_scalar.specs.Places.{text_at}
use Rattle.al_scalar.proofs.LineCells.{lines-at_end}
use Rattle.al_scalar.proofs.RestLemmas.{start-at}
use Rattle.al_yaml_parts.proofs.ContentLemmas.{skipped-solid}
use Rattle.al_yaml_parts.proofs.content.next_content.Goals.{then-line-bytes-via-then-line-bytes, then-line-bytes-via-else-line-bytes+then-is_document_marker}
use Rattle.al_yaml_parts.proofs.content.next_content.Goals as goal

pub returns-then-line-bytes-clause-is : goal.returns-then-line-bytes-clause-is
returns-then-line-bytes-clause-is c =
    let line = c.next_text_line-line in
    elim c.then-line-bytes.branch [
      | then-line-bytes-via-then-line-bytes w ↦ rw (line.ensures.lines, lines-at_end c.args.bytes.now line.result w.if-line-bytes.true) refl
      | then-line-bytes-via-else-line-bytes+then-is_document_marker w ↦
          let text = line.ensures.text (omega (arith, line.ensures.inside, w.if-line-bytes.false)) in
          rw (line.ensures.lines, ← skipped-solid (text_at c.args.bytes.now line.result) text, ← w.if-is_document_marker.ensures) refl
    ]

pub returns-then-begins-clause-is : goal.returns-then-begins-clause-is
returns-then-begins-clause-is c =
    let line = c.next_text_line-line in
    let text = line.ensures.text (omega (arith, line.ensures.inside, c.if-line-bytes.false)) in
    let here = start-at c.args.bytes.now (line.result + c.indent-indent.result) c.indent-indent.ensures.inside in
    rw (
      c.new.ensures,
      line.ensures.lines,
      ← skipped-solid (text_at c.args.bytes.now line.result) text,
      ← c.if-is_document_marker.ensures,
      c.indent-indent.ensures.dropped,
      ← c.if-begins.ensures.value,
      here,
    ) refl

pub returns-clause-is : goal.returns-clause-is
returns-clause-is c =
    let line = c.next_text_line-line in
    let text = line.ensures.text (omega (arith, line.ensures.inside, c.if-line-bytes.false)) in
    rw (
      line.ensures.lines,
      ← skipped-solid (text_at c.args.bytes.now line.result) text,
      ← c.if-is_document_marker.ensures,
      c.indent-indent.ensures.dropped,
      ← c.if-begins.ensures.value,
      ← c.indent-indent.ensures.is,
    ) refl
