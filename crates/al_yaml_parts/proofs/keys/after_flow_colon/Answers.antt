use Rattle.std.proofs.Common.{refl, ◌∙◌}
use Rattle.al_scalar.specs.Places.{text_at}
use Rattle.al_scalar.specs.Plain.{flow}
use Rattle.al_yaml_parts.proofs.KeyLemmas.{flow-blank, flow-by, flow-other, no-value, quoted_found}
use Rattle.al_yaml_parts.proofs.keys.after_flow_colon.Goals.{then-begins-2+then-is_blank_or_end, then-begins-2+else-is_blank_or_end, else-begins-2}
use Rattle.al_yaml_parts.proofs.keys.after_flow_colon.Goals.{else-after_quote-via-then-after_quote+else-begins, else-after_quote-via-else-after_quote}
use Rattle.al_yaml_parts.proofs.keys.after_flow_colon.Goals as goal

pub returns-then-begins : goal.returns-then-begins
returns-then-begins c = quoted_found c.args.bytes.now c.args.at c.args.after_quote c.requires (rw c.if-after_quote.true c.if-begins.ensures.value)

pub returns : goal.returns
returns c =
    let bytes = c.args.bytes.now in
    let solid = c.blanks_end-solid in
    rw c.then_some.ensures (flow-by bytes c.args.at solid.result solid.ensures.from solid.ensures.inside solid.ensures.dropped c.args.after_quote c.if-begins-2.is_colon
    (elim c.else-after_quote.branch [
      | else-after_quote-via-then-after_quote+else-begins w ↦ rw w.if-after_quote.true w.if-begins.ensures.value
      | else-after_quote-via-else-after_quote w ↦ rw w.if-after_quote.false refl
    ])
    (elim c.if-begins-2.branch [
      | then-begins-2+then-is_blank_or_end w ↦ rw w.is_colon-is
          (w.if-is_blank_or_end.true ∙ flow-blank bytes solid.result solid.ensures.inside w.if-begins-2.ensures.value w.if-is_blank_or_end.ensures)
      | then-begins-2+else-is_blank_or_end w ↦ rw w.is_colon-is
          (flow-other bytes solid.result solid.ensures.inside w.if-begins-2.ensures.value w.begins_flow_indicator.result w.if-is_blank_or_end.ensures w.begins_flow_indicator.ensures)
      | else-begins-2 w ↦ rw w.is_colon-is (w.if-begins-2.false ∙ no-value flow (text_at bytes solid.result) w.if-begins-2.ensures.value)
    ]))
