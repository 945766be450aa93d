use Rattle.std.proofs.lemmas.Result.{err_from_is_err_and}
use Rattle.al_scalar.proofs.RestLemmas.{start-at}
use Rattle.al_yaml_tree.specs.Flow.{flow_entry_value}
use Rattle.al_yaml_parts.proofs.RunLemmas.{run-fails}
use Rattle.al_yaml_parts.proofs.flow_nodes.read_flow_value.Goals as goal

pub returns-in_err-part-clause-is : goal.returns-in_err-part-clause-is
unfolding flow_entry_value
returns-in_err-part-clause-is c =
    let p = err_from_is_err_and c.from_residual.result c.from_residual.ensures.1 in
    rw (p.1, p.2) (λ col. rw (c.in_default.is, ← c.span.ensures) c.in_err-part.ensures.is)

pub returns-in_default-clause-is : goal.returns-in_default-clause-is
unfolding flow_entry_value
returns-in_default-clause-is c = λ col. rw (c.in_default.is, ← c.span.ensures) c.in_ok-part.ensures.is

pub returns-then-is_text_end-clause-is : goal.returns-then-is_text_end-clause-is
unfolding flow_entry_value
returns-then-is_text_end-clause-is c = λ col. rw (c.at.ensures.is, c.in-Some.is, c.gap_end-at.ensures.lines, ← c.if-is_text_end.ensures.text) (run-fails _ _ _)

pub returns-in_err-empty_part-clause-is : goal.returns-in_err-empty_part-clause-is
unfolding flow_entry_value
returns-in_err-empty_part-clause-is c =
    let inside = rw c.in-Some.is at c.requires.inside.colon in
    let here = start-at c.args.file.now.bytes.now c.in-Some.colon inside.1 in
    let p = err_from_is_err_and c.from_residual-in_err-empty_part.result c.from_residual-in_err-empty_part.ensures.1 in
    rw (p.1, p.2) (λ col. rw (c.in-Some.is, c.gap_end-at.ensures.lines, here, ← c.if-is_text_end.ensures.text, ← c.if-ends_value.ensures)
    c.in_err-empty_part.ensures.is)

pub returns-then-ends_value-clause-is : goal.returns-then-ends_value-clause-is
unfolding flow_entry_value
returns-then-ends_value-clause-is c = λ col.
    let inside = rw c.in-Some.is at c.requires.inside.colon in
    let here = start-at c.args.file.now.bytes.now c.in-Some.colon inside.1 in
    rw (c.in-Some.is, c.gap_end-at.ensures.lines, here, ← c.if-is_text_end.ensures.text, ← c.if-ends_value.ensures) c.in_ok-empty_part.ensures.is

pub returns-clause-is : goal.returns-clause-is
unfolding flow_entry_value
returns-clause-is c =
    let inside = rw c.in-Some.is at c.requires.inside.colon in
    let here = start-at c.args.file.now.bytes.now c.in-Some.colon inside.1 in
    rw (c.in-Some.is, c.gap_end-at.ensures.lines, here, ← c.if-is_text_end.ensures.text, ← c.if-ends_value.ensures) c.read_flow_node.ensures.is
