use Rattle.std.proofs.Common.{◌≡◌, ◌≤◌, ◌<◌, ◌∙◌, ◌⊎◌, inl, inr, Bor, List, [], ◌∷◌, ℕ, false, None, ap, arith, get_or, length, map, sym}
use Rattle.std.proofs.lemmas.Bool.Decides.{nat_tests}
use Rattle.al_rules_formats.specs.Schedules.{day_names, is_field, minutes_in, month_names, range}
use Rattle.al_rules_formats.proofs.schedules.schedule.Goals as goal

-- five words whose month or weekday isn't valid
wrong : (ws : List (Bor (List ℕ))) (d : Bor (List ℕ)) → 5 ≤ length ws → length ws < 6
    → (is_field (range 1 12 month_names) (get_or ws 3 d).now ≡ false) ⊎ (is_field (range 0 6 day_names) (get_or ws 4 d).now ≡ false)
    → None ≡ minutes_in (map (λ p. p.now) ws)
wrong (m ∷ h ∷ t ∷ o ∷ w ∷ []) d a b e = grind (arith, nat_tests, e)
wrong ws d a b e = grind (arith, nat_tests, e)

pub returns-then-not-branch-3 : goal.returns-then-not-branch-3
returns-then-not-branch-3 c =
    wrong c.as_slice.result.now _ c.in-len5.len_at_least c.in-len5.len_below (inl (sym c.in_ok-is_field-3.ensures ∙ c.if-not-branch-3.true))
    ∙ ap minutes_in (ap (map (λ p. p.now)) c.as_slice.ensures.value ∙ c.in_ok-fields.ensures)

pub returns-then-not-branch-4 : goal.returns-then-not-branch-4
returns-then-not-branch-4 c =
    wrong c.as_slice.result.now _ c.in-len5.len_at_least c.in-len5.len_below (inr (sym c.in_ok-is_field-4.ensures ∙ c.if-not-branch-4.true))
    ∙ ap minutes_in (ap (map (λ p. p.now)) c.as_slice.ensures.value ∙ c.in_ok-fields.ensures)
