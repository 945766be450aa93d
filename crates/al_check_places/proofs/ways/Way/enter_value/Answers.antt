use Rattle.std.proofs.Common.{[], ◌∷◌, ◌++◌, ◌∙◌, ap, arith}
use Rattle.al_check_places.proofs.Prefixes.{entered_value, pushed}
use Rattle.al_check_places.proofs.ways.Way.enter_value.Goals as goal

pub invariant_of-self-2 : goal.invariant_of-self-2
invariant_of-self-2 c =
    let way = c.args.self.now in
    let added = c.push-2.ensures.items ∙ pushed c.push-2.result _ _ (c.push-2.ensures.succeeds (omega (arith, c.in_ok-reserve.ensures.ok)))
    ∙ ap (λ ks. ks ++ c.args.key ∷ []) c.in_ok-reserve.ensures.items in
    record { keyed = entered_value way.steps.items c.push.new.self.items c.args.key way.keys.items c.push-2.new.self.items c.in_ok-push.ensures.items added way.keyed }
