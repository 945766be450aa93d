use Rattle.std.proofs.Common.{◌∙◌, ◌&&◌, ap, slice_index}
use Rattle.al_scalar.specs.Plain.{is_flow_indicator}
use Rattle.al_scalar.specs.Private.PlainLines.{context_of}
use Rattle.al_scalar.proofs.PlainLemmas.{ends_key-cell}
use Rattle.al_scalar.proofs.plain.ends_key.Goals as goal

pub returns-then-is_flow : goal.returns-then-is_flow
returns-then-is_flow c =
    let bytes = c.args.bytes.now in
    ends_key-cell (context_of c.args.context) bytes c.args.at c.requires c.is_flow_indicator.result c.if-is_blank_or_end.ensures
    (c.is_flow_indicator.ensures ∙ ap (λ b. b && is_flow_indicator (slice_index bytes c.args.at)) c.if-is_flow.ensures)
