use Rattle.std.proofs.Common.{◌∙◌, rules, sym, tests}
use Rattle.std.proofs.lemmas.Iterator.{YieldsList-from_slice}
use Rattle.std.proofs.lemmas.Iterator.Adapters.{option_map_id}
use Rattle.std.proofs.lemmas.Iterator.Consumers.{YieldsList-at, YieldsList-from_copied}
use Rattle.std.proofs.lemmas.Iterator.Search.{find_from_yields_List}
use Rattle.al_base.specs.Names.{same_name}
use Rattle.al_expr_names.specs.Names.{context_name}
use Rattle.al_expr_names.proofs.NameLists.{context_found}
use Rattle.al_expr_names.proofs.names.Context.from_name.Goals as goal

pub returns : goal.returns
returns c =
    let name = c.args.name.now in
    context_found name
    (sym (option_map_id c.find.result)
    ∙ find_from_yields_List (λ x. same_name (context_name x) name) _ _ c.find.result c.find.ensures.ran
    (YieldsList-from_copied (YieldsList-at c.copied.ensures.source (YieldsList-from_slice _ c.iter.ensures.rest))) (λ x b q k. search (rules, tests)))
