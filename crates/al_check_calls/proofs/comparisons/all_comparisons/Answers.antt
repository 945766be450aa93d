use Rattle.std.proofs.Common.{◌≡◌, ◌++◌, ◌∙◌, List, [], ◌∷◌, Option, Some, None, ap, append_assoc, append-nil, map}
use Rattle.std.specs.List.{cons_option}
use Rattle.al_base.proofs.Sets.{list_more}
use Rattle.al_check_calls.specs.AnswerViews.{answered_of}
use Rattle.al_check_calls.specs.Private.ComparisonViews.{compared_of}
use Rattle.al_check_calls.specs.Private.Comparing.{comparisons}
use Rattle.al_check_calls.proofs.comparisons.all_comparisons.Goals as goal

both : {X : Type 0} (o p : Option X) (old mid new : List X) → mid ≡ old ++ cons_option o [] → new ≡ mid ++ cons_option p [] → new ≡ old ++ cons_option o (cons_option p [])
both None p old mid new a b = b ∙ ap (λ l. l ++ cons_option p []) (a ∙ append-nil old)
both (Some x) p old mid new a b = b ∙ ap (λ l. l ++ cons_option p []) a ∙ append_assoc old (x ∷ []) (cons_option p [])

pub loop-one-preserved : goal.loop-one-preserved
loop-one-preserved c =
    list_more comparisons answered_of c.args.answered.now c.loop-one.one-index c.one-item.result [] (map compared_of c.loop-one.found.items)
    (map compared_of c.add_comparison-in-loop-one.new.found.items) c.loop-one-test.true c.one-item.is c.loop-one.invariant
    (both _ _ _ _ _ c.in_ok-add_comparison.ensures c.in_ok-add_comparison-2.ensures)
