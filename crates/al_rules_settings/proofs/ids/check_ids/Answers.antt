use Rattle.std.proofs.Common.{◌≡◌, ◌∙◌, ℕ, Ok, ap, map, rules, tests}
use Rattle.std.proofs.lemmas.Iterator.{YieldsList-from_map_by, YieldsList-from_slice}
use Rattle.std.proofs.lemmas.Iterator.Consumers.{map_from_collect}
use Rattle.al_base.specs.NamePlaces.{is_first_name}
use Rattle.al_rules_settings.specs.Views.{named_of}
use Rattle.al_rules_settings.proofs.Joining.{mapped}
use Rattle.al_rules_settings.proofs.RepeatedIds.{repeated_next}
use Rattle.al_rules_settings.proofs.ids.check_ids.Goals as goal

pub loop-i-preserved : goal.loop-i-preserved
loop-i-preserved c =
    let ids = c.args.ids.now in
    let listed : map (λ t. t.now) c.in_ok-texts.texts.items ≡ map (λ n. n.text.now) ids =
    map_from_collect {E = ℕ} (Ok c.in_ok-texts.texts) c.in_ok-texts.ensures.ran
    (YieldsList-from_map_by _ (λ t. t.now) (λ n. n.text.now) (YieldsList-from_slice ids cc) c.map.ensures.closure (λ x r q k. search (rules, tests))) in
    let all : map (λ t. t.now) c.as_slice.result.now ≡ map (λ n. n.text) (map named_of ids) =
    ap (map (λ t. t.now)) c.as_slice.ensures.value ∙ listed ∙ mapped (λ n. n.text) named_of ids in
    let firsts = rw all at c.in_ok-positions.ensures.first in
    repeated_next (is_first_name c.in_ok-positions.positions) ids c.loop-i.i _ c.is_first.result _ _ _ firsts c.is_first.ensures c.loop-i-test.true
    c.loop-i.invariant c.in_ok-report_unless-2.ensures
