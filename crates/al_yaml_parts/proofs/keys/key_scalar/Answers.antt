use Rattle.al_yaml_parts.proofs.LineReadLemmas.{line_read, line_inside}
use Rattle.al_yaml_parts.proofs.keys.key_scalar.Goals as goal

pub returns-then-is_quote-clause-is : goal.returns-then-is_quote-clause-is
returns-then-is_quote-clause-is c = rw (← c.if-is_quote.ensures) c.scalar_at.ensures.is

pub returns-clause-is : goal.returns-clause-is
returns-clause-is c =
    let end = c.line_end-end in
    let line = end.ensures.on_line in
    rw (← c.if-is_quote.ensures) (line_read c.args.file.now.bytes.now end.result line.inside end.ensures.is_end c.args.at line.from end.ensures.end
    c.scalar_at-2.result c.scalar_at-2.ensures.is c.scalar_at-2.ensures.inside)

pub returns-clause-inside : goal.returns-clause-inside
returns-clause-inside c =
    let end = c.line_end-end in
    let line = end.ensures.on_line in
    line_inside c.args.file.now.bytes.now end.result line.inside end.ensures.is_end c.args.at line.from end.ensures.end c.scalar_at-2.result c.scalar_at-2.ensures.inside
