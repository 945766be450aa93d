use Rattle.std.proofs.Common.{rules, tests}
use Rattle.std.specs.Str.{bytes_eq}
use Rattle.std.proofs.lemmas.Iterator.{YieldsList-from_slice}
use Rattle.std.proofs.lemmas.Iterator.Search.{find_from_yields_List}
use Rattle.al_tree.specs.Table.{field_view}
use Rattle.al_tree.proofs.Lists.{found_view}
use Rattle.al_tree.proofs.standings.row_at.Goals as goal

pub returns : goal.returns
returns c =
    found_view field_view (λ f. bytes_eq f.key c.args.key.now) c.args.rows.now c.find.result
    (find_from_yields_List (λ r. bytes_eq (field_view r).key c.args.key.now) _ _ c.find.result c.find.ensures.ran
    (YieldsList-from_slice c.args.rows.now c.iter.ensures.rest) (λ x b q k. search (rules, tests)))
