use Rattle.std.proofs.Common.{◌&&◌, ◌==◌, ◌∙◌, ap, length, map, rules, tests, find}
use Rattle.std.proofs.lemmas.Iterator.{YieldsList-from_slice}
use Rattle.std.proofs.lemmas.Iterator.Search.{find_from_yields_List}
use Rattle.al_tree.proofs.Lists.{found_view}
use Rattle.al_check_places.specs.Availability.{row_view}
use Rattle.al_check_places.specs.Paths.{is_path_prefix}
use Rattle.al_check_places.proofs.table.row_of.Goals as goal

pub returns : goal.returns
returns c =
    let ks = map (λ k. k.now) c.args.keys.now in
    found_view row_view (λ r. (length r.path == length ks) && is_path_prefix r.path ks) c.rows.result.now c.find.result
    (find_from_yields_List (λ r. (length (row_view r).path == length ks) && is_path_prefix (row_view r).path ks) _ _ c.find.result c.find.ensures.ran
    (YieldsList-from_slice c.rows.result.now c.iter.ensures.rest) (λ x b q k. search (rules, tests)))
    ∙ ap (find (λ r. (length r.path == length ks) && is_path_prefix r.path ks)) c.rows.ensures
