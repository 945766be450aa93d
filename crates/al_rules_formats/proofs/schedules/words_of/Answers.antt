use Rattle.std.proofs.Common.{length, rules, tests}
use Rattle.std.specs.Prelude.{◌==◌, nat_lt}
use Rattle.std.proofs.lemmas.Iterator.Consumers.{YieldsList-at, YieldsList-from_filter, map_from_collect}
use Rattle.std.proofs.lemmas.Iterator.Splits.{YieldsList-from_slice_split}
use Rattle.al_rules_formats.proofs.schedules.words_of.Goals as goal

pub returns : goal.returns
returns c = map_from_collect _ c.collect.ensures.ran
    (YieldsList-from_filter _ (λ w. nat_lt 0 (length w)) (YieldsList-at c.filter.ensures.source
    (YieldsList-from_slice_split _ (λ b. b == 32) c.args.text.now c.split-pieces.ensures.rest c.split-pieces.ensures.done c.split-pieces.ensures.closure
    (λ x r q k. search (rules, tests)))) c.filter.ensures.closure (λ x r q k. search (rules, tests)))
