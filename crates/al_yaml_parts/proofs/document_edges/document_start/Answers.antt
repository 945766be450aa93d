use Rattle.std.proofs.Common.{refl}
use Rattle.al_scalar.proofs.RestLemmas.{start-at}
use Rattle.al_yaml_parts.proofs.DocumentLemmas.{marker-after}
use Rattle.al_yaml_parts.proofs.document_edges.document_start.Goals as goal

pub returns-then-begins-clause-is : goal.returns-then-begins-clause-is
returns-then-begins-clause-is c =
    let line = c.next_text_line-line in
    rw (c.new.ensures, line.ensures.lines, ← c.if-begins.ensures.value, start-at c.args.bytes.now line.result line.ensures.inside) refl

pub line_after-requires : goal.line_after-requires
line_after-requires c =
    let line = c.next_text_line-line in
    (marker-after c.args.bytes.now line.result 45 line.ensures.inside c.if-is_marker.ensures).1

pub returns-then-is_marker-clause-is : goal.returns-then-is_marker-clause-is
returns-then-is_marker-clause-is c =
    let line = c.next_text_line-line in
    rw (
      line.ensures.lines,
      ← c.if-begins.ensures.value,
      ← c.if-is_marker.ensures,
      (marker-after c.args.bytes.now line.result 45 line.ensures.inside c.if-is_marker.ensures).0,
    ) c.line_after.ensures.is

pub returns-clause-is : goal.returns-clause-is
returns-clause-is c = rw (c.next_text_line-line.ensures.lines, ← c.if-begins.ensures.value, ← c.if-is_marker.ensures) refl
