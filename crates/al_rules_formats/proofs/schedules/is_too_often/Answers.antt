use Rattle.std.proofs.Common.{◌≡◌, ◌∙◌, ℕ, Ok, ap, refl, rules, tests}
use Rattle.std.specs.List.{list_any}
use Rattle.std.proofs.lemmas.Iterator.{YieldsList-from_range, YieldsList-from_slice, items_from_collect}
use Rattle.std.proofs.lemmas.Iterator.Consumers.{YieldsList-at, YieldsList-from_filter}
use Rattle.std.proofs.lemmas.Iterator.Search.{any_from_yields_List}
use Rattle.al_rules_formats.specs.Schedules.{is_just_below, minute_set, picks}
use Rattle.al_rules_formats.proofs.schedules.is_too_often.Goals as goal

pub returns : goal.returns
returns c =
    let minutes : c.in_ok-minutes.minutes.items ≡ minute_set c.args.items.now =
    items_from_collect {E = ℕ} (Ok c.in_ok-minutes.minutes) c.in_ok-minutes.ensures.ran
    (YieldsList-from_filter _ (λ n. list_any (picks n) c.args.items.now) (YieldsList-at c.filter-minutes.ensures.source (YieldsList-from_range 0 60 60 refl refl))
    c.filter-minutes.ensures.closure (λ x r q k. search (rules, tests))) in
    any_from_yields_List (λ m. list_any (is_just_below m) c.as_slice-numbers.result.now) _ _ _ c.any.ensures.ran
    (YieldsList-from_slice _ c.iter.ensures.rest) (λ x b q k. search (rules, tests))
    ∙ ap (λ ns. list_any (λ m. list_any (is_just_below m) ns) ns) (c.as_slice-numbers.ensures.value ∙ minutes)
