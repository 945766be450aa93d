use Rattle.std.proofs.Common.{sym, ap, ◌∙◌, arith, Some}
use Rattle.al_rules_formats.specs.Private.PatternStates.{is_done}
use Rattle.al_rules_formats.proofs.PatternLemmas.{not_done, read_to_end, read_wrong}
use Rattle.al_rules_formats.proofs.patterns.are_items.Goals as goal

pub returns-in-None : goal.returns-in-None
returns-in-None c =
    read_wrong c.loop-c.state c.c-item.result c.args.characters.now c.loop-c.c-index c.loop-c-test.true c.c-item.is c.in-None.ensures c.loop-c.invariant

pub returns-in-AfterItem : goal.returns-in-AfterItem
returns-in-AfterItem c =
    sym (ap (λ s. is_done (Some s)) c.in-AfterItem.is) ∙ read_to_end c.loop-c.state c.args.characters.now c.loop-c.c-index (omega arith) c.loop-c.invariant

pub returns-in_default : goal.returns-in_default
returns-in_default c =
    not_done c.loop-c.state c.in_default.not-AfterItem ∙ read_to_end c.loop-c.state c.args.characters.now c.loop-c.c-index (omega arith) c.loop-c.invariant
