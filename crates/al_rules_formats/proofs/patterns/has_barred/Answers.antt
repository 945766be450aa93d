use Rattle.std.proofs.Common.{rules, tests}
use Rattle.std.proofs.lemmas.Iterator.{YieldsList-from_slice}
use Rattle.std.proofs.lemmas.Iterator.Search.{any_from_yields_List}
use Rattle.al_rules_formats.specs.Patterns.{is_barred}
use Rattle.al_rules_formats.proofs.patterns.has_barred.Goals as goal

pub returns-in-Names : goal.returns-in-Names
returns-in-Names c =
    rw c.in-Names.is (any_from_yields_List is_barred _ _ c.any.result c.any.ensures.ran (YieldsList-from_slice c.args.characters.now c.iter.ensures.rest) (λ x b q k. search (rules, tests)))
