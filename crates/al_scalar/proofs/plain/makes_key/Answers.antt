use Rattle.std.proofs.Common.{◌∙◌, ◌&&◌, not, ap}
use Rattle.al_scalar.specs.Places.{text_at}
use Rattle.al_scalar.specs.Plain.{is_value_colon}
use Rattle.al_scalar.specs.Private.PlainLines.{context_of}
use Rattle.al_scalar.proofs.MarkerLemmas.{colon-ends}
use Rattle.al_scalar.proofs.plain.makes_key.Goals as goal

pub returns-then-begins : goal.returns-then-begins
returns-then-begins c =
    let p = context_of c.args.context in
    let text = text_at c.args.bytes.now c.args.at in
    colon-ends c.args.bytes.now c.args.at c.requires p c.if-begins.ensures.value c.ends_key.result c.ends_key.ensures
    ∙ ap (λ b. not b && is_value_colon p text) c.if-is_flow.ensures
