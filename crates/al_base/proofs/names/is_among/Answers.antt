use Rattle.std.proofs.Common.{◌∙◌, rules, tests}
use Rattle.std.proofs.lemmas.Iterator.{YieldsList-from_slice}
use Rattle.std.proofs.lemmas.Iterator.Search.{any_from_yields_List}
use Rattle.std.specs.Str.{bytes_eq}
use Rattle.al_base.proofs.Elements.{any_mapped}
use Rattle.al_base.proofs.names.is_among.Goals as goal

pub returns : goal.returns
returns c =
    any_from_yields_List (λ t. bytes_eq c.args.text.now t.now) _ _ _ c.any.ensures.ran (YieldsList-from_slice c.args.others.now c.iter.ensures.rest)
    (λ x b q k. search (rules, tests))
    ∙ any_mapped (λ t. t.now) (bytes_eq c.args.text.now) c.args.others.now
