use Rattle.std.proofs.Common.{◌∙◌, arith, length, subst, sym}
use Rattle.al_base.specs.Spans.{LiesIn}
use Rattle.al_yaml_tree.proofs.CharacterLemmas.{character-inside}
use Rattle.al_yaml_parts.proofs.ByteLemmas.{plain-utf8, plain-faultless, printable, unprintable-fault, ill_formed-fault}
use Rattle.al_yaml_parts.proofs.bytes.byte_fault.Goals as goal

pub returns-then-are_plain-clause-is : goal.returns-then-are_plain-clause-is
returns-then-are_plain-clause-is c = plain-faultless c.args.bytes.now (c.are_plain.ensures c.if-are_plain.true)

pub returns-then-are_plain-clause-characters : goal.returns-then-are_plain-clause-characters
returns-then-are_plain-clause-characters c = plain-utf8 c.args.bytes.now (c.are_plain.ensures c.if-are_plain.true)

pub returns-in_ok-unprintable_at-in-Ok-clause-is : goal.returns-in_ok-unprintable_at-in-Ok-clause-is
returns-in_ok-unprintable_at-in-Ok-clause-is c =
    unprintable-fault c.args.bytes.now c.in_ok-unprintable_at-in-Ok.field-0 c.fault_at.result c.in-Ok.ensures.cases.1
    (sym c.in_ok-unprintable_at-in-Ok.ensures.value) c.fault_at.ensures.code c.fault_at.ensures.span

pub returns-in_ok-unprintable_at-in-Ok-clause-inside : goal.returns-in_ok-unprintable_at-in-Ok-clause-inside
returns-in_ok-unprintable_at-in-Ok-clause-inside c =
    subst (LiesIn (length c.args.bytes.now)) (sym c.fault_at.ensures.span)
    (character-inside c.args.bytes.now c.in_ok-unprintable_at-in-Ok.field-0 (omega (arith, c.in_ok-unprintable_at-in-Ok.ensures.inside)))

pub returns-in_err-unprintable_at-in-Ok-clause-is : goal.returns-in_err-unprintable_at-in-Ok-clause-is
returns-in_err-unprintable_at-in-Ok-clause-is c = rw c.from_residual.ensures (printable c.args.bytes.now c.in-Ok.ensures.cases.1 (sym c.in_err-unprintable_at-in-Ok.ensures.value))

pub returns-in-Err-clause-is : goal.returns-in-Err-clause-is
returns-in-Err-clause-is c = ill_formed-fault c.args.bytes.now c.valid_up_to-at.result c.in-Err.ensures.cases.0 (c.valid_up_to-at.ensures ∙ c.in-Err.ensures.valid_len)
