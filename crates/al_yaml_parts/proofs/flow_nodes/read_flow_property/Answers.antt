use Rattle.std.proofs.Common.{ap, arith, ◌∙◌, false, Some}
use Rattle.std.proofs.lemmas.Result.{err_from_is_err_and}
use Rattle.al_scalar.specs.Places.{lines_at, text_at}
use Rattle.al_scalar.proofs.RestLemmas.{start-at}
use Rattle.al_yaml_tree.specs.Flow.{flow_content, flow_property, gap}
use Rattle.al_yaml_parts.specs.FlowReads.{flow_slot}
use Rattle.al_yaml_parts.specs.Answers.{mark_of, noting}
use Rattle.al_yaml_parts.specs.Reads.{run, state_of}
use Rattle.al_yaml_parts.proofs.RunLemmas.{run-fails}
use Rattle.al_yaml_parts.proofs.FlowNodeLemmas.{anchored-fails, anchored-part, anchored-runs, anchored-stops, right-property}
use Rattle.al_yaml_parts.proofs.flow_nodes.read_flow_property.Goals as goal

pub returns-then-has_no_name-clause-is : goal.returns-then-has_no_name-clause-is
unfolding flow_property
returns-then-has_no_name-clause-is c = λ col. rw (c.at.ensures.is, ← c.if-has_no_name.ensures, start-at c.args.file.now.bytes.now c.args.at c.requires.inside) (run-fails _ _ _)

pub returns-in_err-read_alias-clause-is : goal.returns-in_err-read_alias-clause-is
unfolding flow_property
returns-in_err-read_alias-clause-is c =
    let p = err_from_is_err_and c.from_residual.result c.from_residual.ensures.1 in
    rw (p.1, p.2) (λ col. rw (← c.if-has_no_name.ensures, ← c.if-begins.ensures.value) c.in_err-read_alias.ensures.is)

pub returns-then-begins-clause-is : goal.returns-then-begins-clause-is
unfolding flow_property
returns-then-begins-clause-is c = λ col. rw (← c.if-has_no_name.ensures, ← c.if-begins.ensures.value) c.in_ok-read_alias.ensures.is

pub returns-then-is_text_end-clause-is : goal.returns-then-is_text_end-clause-is
returns-then-is_text_end-clause-is c = λ col.
    rw c.at-then-is_text_end.ensures.is (anchored-fails _ _ _ _ _ _ _ c.requires.inside c.if-has_no_name.ensures c.if-begins.ensures.value
    (ap (gap false) c.property_end.ensures.lines ∙ c.gap_end-start.ensures.lines) _ (rw (← c.if-is_text_end.ensures.text) (run-fails _ _ _)))

pub returns-in_default-clause-is : goal.returns-in_default-clause-is
returns-in_default-clause-is c = λ col.
    rw c.at-in_default.ensures.is (anchored-fails _ _ _ _ _ _ _ c.requires.inside c.if-has_no_name.ensures c.if-begins.ensures.value
    (ap (gap false) c.property_end.ensures.lines ∙ c.gap_end-start.ensures.lines)
    _ (rw (← c.if-is_text_end.ensures.text, ← c.if-ends_value.ensures, c.in_default.is, start-at c.args.file.now.bytes.now c.gap_end-start.result c.gap_end-start.ensures.inside)
    (run-fails _ _ _)))

pub returns-in_err-part-clause-is : goal.returns-in_err-part-clause-is
returns-in_err-part-clause-is c =
    let p = err_from_is_err_and c.from_residual-in_err-part.result c.from_residual-in_err-part.ensures.1 in
    rw (p.1, p.2) (λ col. anchored-stops _ _ _ _ _ _ _ c.requires.inside c.if-has_no_name.ensures c.if-begins.ensures.value
    (ap (gap false) c.property_end.ensures.lines ∙ c.gap_end-start.ensures.lines)
    c.in_err-part.field-0.0 (rw (← c.if-is_text_end.ensures.text, ← c.if-ends_value.ensures, c.in-Some.is) c.in_err-part.ensures.is))

pub returns-then-ends_value-clause-is : goal.returns-then-ends_value-clause-is
returns-then-ends_value-clause-is c = λ col.
    anchored-part _ _ _ _ _ _ _ c.requires.inside c.if-has_no_name.ensures c.if-begins.ensures.value
    (ap (gap false) c.property_end.ensures.lines ∙ c.gap_end-start.ensures.lines) c.in_ok-part.part c.in_ok-complete.field-0 (state_of c.empty_part.new.state) (state_of c.complete.new.state)
    (rw (← c.if-is_text_end.ensures.text, ← c.if-ends_value.ensures, c.in-Some.is) c.in_ok-part.ensures.is) c.in_ok-complete.ensures.part c.in_ok-complete.ensures.state

pub returns-then-ends_value-clause-within : goal.returns-then-ends_value-clause-within
returns-then-ends_value-clause-within c =
    let empty = rw c.in-Some.is at c.requires.empty in
    let end = c.in_ok-complete.ensures.end ∙ c.in_ok-part.ensures.end in
    let next = c.in_ok-complete.ensures.next ∙ c.in_ok-part.ensures.next in
    record {
      from = omega (arith, next, c.property_end.ensures.from, c.gap_end-start.ensures.from);
      inside = omega (arith, next, c.gap_end-start.ensures.inside);
      end = omega (arith, end, empty, c.requires.inside);
    }

pub returns-then-is_property-clause-is : goal.returns-then-is_property-clause-is
unfolding flow_content
returns-then-is_property-clause-is c = λ col.
    rw c.at-then-is_property.ensures.is (anchored-fails _ _ _ _ _ _ _ c.requires.inside c.if-has_no_name.ensures c.if-begins.ensures.value
    (ap (gap false) c.property_end.ensures.lines ∙ c.gap_end-start.ensures.lines)
    _ (rw (
      ← c.if-is_text_end.ensures.text,
      ← c.if-ends_value.ensures,
      ← right-property (text_at c.args.file.now.bytes.now c.gap_end-start.result) c.if-is_property.ensures,
      ← c.if-is_property.ensures,
      start-at c.args.file.now.bytes.now c.gap_end-start.result c.gap_end-start.ensures.inside,
    )
    (run-fails _ _ _)))

pub returns-in_err-part-2-clause-is : goal.returns-in_err-part-2-clause-is
returns-in_err-part-2-clause-is c =
    let p = err_from_is_err_and c.from_residual-in_err-part-2.result c.from_residual-in_err-part-2.ensures.1 in
    rw (p.1, p.2) (λ col. anchored-stops _ _ _ _ _ _ _ c.requires.inside c.if-has_no_name.ensures c.if-begins.ensures.value
    (ap (gap false) c.property_end.ensures.lines ∙ c.gap_end-start.ensures.lines)
    c.in_err-part-2.field-0.0 (rw (← c.if-is_text_end.ensures.text, ← c.if-ends_value.ensures) (c.in_err-part-2.ensures.is c.args.depth (flow_slot c.args.slot) col)))

pub returns-in_ok-complete-in-Node-clause-is : goal.returns-in_ok-complete-in-Node-clause-is
returns-in_ok-complete-in-Node-clause-is c = λ col.
    let found = rw c.in-Node.is at c.in_ok-part-2.ensures.is in
    anchored-part _ _ _ _ _ _ _ c.requires.inside c.if-has_no_name.ensures c.if-begins.ensures.value (ap (gap false) c.property_end.ensures.lines ∙ c.gap_end-start.ensures.lines)
    c.in-Node.part c.in_ok-complete-in-Node.field-0 (state_of c.read_flow_content.new.state) (state_of c.complete-in-Node.new.state)
    (rw (← c.if-is_text_end.ensures.text, ← c.if-ends_value.ensures) (found c.args.depth (flow_slot c.args.slot) col)) c.in_ok-complete-in-Node.ensures.part c.in_ok-complete-in-Node.ensures.state

pub returns-in-Opens-clause-is : goal.returns-in-Opens-clause-is
returns-in-Opens-clause-is c = λ col.
    let bytes = c.args.file.now.bytes.now in
    let found = rw c.in-Opens.is at c.in_ok-part-2.ensures.is in
    let bare = rw c.in-Opens.is at c.in_ok-part-2.ensures.bare in
    anchored-runs _ _ _ _ _ _ _ c.requires.inside c.if-has_no_name.ensures c.if-begins.ensures.value (ap (gap false) c.property_end.ensures.lines ∙ c.gap_end-start.ensures.lines)
    ∙ ap (noting (mark_of bytes (Some c.args.at))) (rw (← c.if-is_text_end.ensures.text, ← c.if-ends_value.ensures) (found c.args.depth (flow_slot c.args.slot) col
    ∙ ap (λ a. noting (mark_of bytes a) (run (state_of c.read_flow_content.new.state) (col c.args.depth (lines_at bytes c.in-Opens.field-0.at)))) bare))
