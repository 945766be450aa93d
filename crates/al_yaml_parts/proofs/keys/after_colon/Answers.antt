use Rattle.std.proofs.Common.{◌∙◌}
use Rattle.al_scalar.specs.Places.{text_at}
use Rattle.al_scalar.specs.Plain.{block}
use Rattle.al_yaml_parts.proofs.KeyLemmas.{block-by, block-ends, no-value}
use Rattle.al_yaml_parts.proofs.keys.after_colon.Goals.{then-begins, else-begins}
use Rattle.al_yaml_parts.proofs.keys.after_colon.Goals as goal

pub returns : goal.returns
returns c =
    let solid = c.blanks_end-solid in
    rw c.then_some.ensures (block-by c.args.bytes.now c.args.at solid.result solid.ensures.from solid.ensures.inside solid.ensures.dropped c.if-begins.then_some (elim c.if-begins.branch [
      | then-begins w ↦ rw w.then_some-is (block-ends c.args.bytes.now solid.result solid.ensures.inside w.if-begins.ensures.value w.is_blank_or_end.result w.is_blank_or_end.ensures)
      | else-begins w ↦ rw w.then_some-is (w.if-begins.false ∙ no-value (block 0) (text_at c.args.bytes.now solid.result) w.if-begins.ensures.value)
    ]))
