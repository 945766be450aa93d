use Rattle.std.proofs.Common.{rules, tests, arith}
use Rattle.std.proofs.lemmas.Bool.Decides.{nat_tests}
use Rattle.std.proofs.lemmas.Iterator.{YieldsList-from_slice}
use Rattle.std.proofs.lemmas.Iterator.Search.{all_from_yields_List}
use Rattle.al_rules_formats.specs.Names.{is_variable_byte}
use Rattle.al_rules_formats.proofs.names.is_variable.Goals as goal

pub returns-then-not-is_empty : goal.returns-then-not-is_empty
returns-then-not-is_empty c =
    let all = all_from_yields_List is_variable_byte _ _ c.all.result c.all.ensures.ran (YieldsList-from_slice c.args.text.now c.iter.ensures.rest) (λ x b q k. search (rules, tests)) in
    grind (arith, nat_tests, all, c.is_empty.ensures, c.if-not-is_empty.true)
