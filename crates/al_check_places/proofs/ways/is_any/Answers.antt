use Rattle.std.proofs.Common.{◌&&◌, ◌==◌, ◌∙◌, length, map, rules, tests}
use Rattle.std.proofs.lemmas.Iterator.{YieldsList-from_slice}
use Rattle.std.proofs.lemmas.Iterator.Search.{any_from_yields_List}
use Rattle.al_base.proofs.Elements.{any_mapped}
use Rattle.al_check_places.specs.Paths.{Path, is_path_prefix, key_view}
use Rattle.al_check_places.proofs.ways.is_any.Goals as goal

pub returns : goal.returns
returns c =
    let ks = map (λ k. k.now) c.args.keys.now in
    let test = λ (p : Path). (length p == length ks) && is_path_prefix p ks in
    any_from_yields_List (λ p. test (map key_view p.now)) _ _ c.any.result c.any.ensures.ran (YieldsList-from_slice c.args.paths.now c.iter.ensures.rest)
    (λ x b q k. search (rules, tests)) ∙ any_mapped (λ p. map key_view p.now) test c.args.paths.now
