use Rattle.std.proofs.Common.{◌∙◌, ◌&&◌, ap, slice_index}
use Rattle.al_scalar.specs.Plain.{is_flow_indicator}
use Rattle.al_scalar.specs.Private.PlainLines.{context_of}
use Rattle.al_scalar.proofs.LineCells.{never}
use Rattle.al_scalar.proofs.PlainLemmas.{ends_at-colon, ends_at-hash, ends_at-other}
use Rattle.al_scalar.proofs.plain.ends_plain.Goals as goal

pub returns-then-byte-eq58 : goal.returns-then-byte-eq58
returns-then-byte-eq58 c =
    ends_at-colon (context_of c.args.context) c.args.bytes.now c.args.at c.requires (λ h. never (c.if-is_line_end.ensures.1 h))
    c.args.after_blank c.ends_key.result c.if-byte-eq58.true c.ends_key.ensures

pub returns-then-byte-eq35 : goal.returns-then-byte-eq35
returns-then-byte-eq35 c =
    ends_at-hash (context_of c.args.context) c.args.bytes.now c.args.at c.requires (λ h. never (c.if-is_line_end.ensures.1 h)) c.args.after_blank c.if-byte-eq35.true

pub returns-then-is_flow : goal.returns-then-is_flow
returns-then-is_flow c =
    let bytes = c.args.bytes.now in
    ends_at-other (context_of c.args.context) bytes c.args.at c.requires (λ h. never (c.if-is_line_end.ensures.1 h)) c.args.after_blank
    c.is_flow_indicator.result c.if-byte-eq58.false c.if-byte-eq35.false
    (c.is_flow_indicator.ensures ∙ ap (λ b. b && is_flow_indicator (slice_index bytes c.args.at)) c.if-is_flow.ensures)

pub returns-else-is_flow : goal.returns-else-is_flow
returns-else-is_flow c =
    let bytes = c.args.bytes.now in
    ends_at-other (context_of c.args.context) bytes c.args.at c.requires (λ h. never (c.if-is_line_end.ensures.1 h)) c.args.after_blank c.is_flow.result c.if-byte-eq58.false c.if-byte-eq35.false
    (c.if-is_flow.false ∙ ap (λ b. b && is_flow_indicator (slice_index bytes c.args.at)) c.if-is_flow.ensures)
