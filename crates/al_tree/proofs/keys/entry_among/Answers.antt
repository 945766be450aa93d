use Rattle.std.proofs.Common.{rules, tests}
use Rattle.std.proofs.lemmas.Iterator.{YieldsList-from_slice}
use Rattle.std.proofs.lemmas.Iterator.Search.{find_from_yields_List}
use Rattle.al_yaml_tree.specs.View.{entry_view}
use Rattle.al_tree.specs.Faults.{is_key}
use Rattle.al_tree.proofs.Lists.{found_view}
use Rattle.al_tree.proofs.keys.entry_among.Goals as goal

pub returns : goal.returns
returns c =
    found_view entry_view (is_key c.args.key.now) c.args.entries.now c.find.result
    (find_from_yields_List (λ e. is_key c.args.key.now (entry_view e)) _ _ c.find.result c.find.ensures.ran
    (YieldsList-from_slice c.args.entries.now c.iter.ensures.rest) (λ x b q k. search (rules, tests)))
