use Rattle.std.proofs.Common.{◌∙◌, rules, tests}
use Rattle.std.proofs.lemmas.Iterator.{YieldsList-from_slice}
use Rattle.std.proofs.lemmas.Iterator.Search.{any_from_yields_List}
use Rattle.al_base.specs.Names.{same_name}
use Rattle.al_base.proofs.Elements.{any_mapped}
use Rattle.al_tree.proofs.declarations.is_named_among.Goals as goal

pub returns : goal.returns
returns c =
    any_from_yields_List (λ t. same_name t.now c.args.name.now) _ _ _ c.any.ensures.ran
    (YieldsList-from_slice c.args.texts.now c.iter.ensures.rest) (λ x b q k. search (rules, tests))
    ∙ any_mapped (λ t. t.now) (λ t. same_name t c.args.name.now) c.args.texts.now
