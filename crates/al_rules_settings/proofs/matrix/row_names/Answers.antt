use Rattle.std.proofs.Common.{◌≡◌, IfOk, map, not, rules, subst, tests}
use Rattle.std.specs.List.{filter}
use Rattle.std.proofs.lemmas.Iterator.{YieldsList-from_map_by, YieldsList-from_slice}
use Rattle.std.proofs.lemmas.Iterator.Consumers.{YieldsList-at, YieldsList-from_filter, map_from_collect}
use Rattle.al_tree.specs.Keys.{key_of}
use Rattle.al_tree.specs.Names.{is_combination_key}
use Rattle.al_tree.specs.Values.{member_of}
use Rattle.al_rules_settings.proofs.Joining.{mapped}
use Rattle.al_rules_settings.proofs.matrix.row_names.Goals as goal

pub returns : goal.returns
returns c =
    subst (λ ks. IfOk c.collect.result (λ v. map (λ t. t.now) v.items ≡ filter (λ k. not (is_combination_key k)) ks)) (mapped key_of member_of c.args.rows.now)
    (map_from_collect _ c.collect.ensures.ran
    (YieldsList-from_filter _ (λ k. not (is_combination_key k)) (YieldsList-at c.filter.ensures.source
    (YieldsList-from_map_by _ (λ t. t.now) (λ m. key_of (member_of m)) (YieldsList-from_slice c.args.rows.now cc) c.map-keys.ensures.closure
    (λ x r q k. search (rules, tests)))) c.filter.ensures.closure (λ x r q k. search (rules, tests))))
