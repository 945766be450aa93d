use Rattle.std.proofs.Common.{◌≡◌, ◌∙◌, ap, arith, length, subst, true}
use Rattle.std.proofs.lemmas.Result.{IfOk-weaker}
use Rattle.std.specs.Prelude.{IfSome}
use Rattle.al_expr_types.specs.Types.{are_below}
use Rattle.al_expr_types.proofs.ObjectLists.{below_wider}
use Rattle.al_expr_types.proofs.types.Types.and_flat.Goals as goal

pub returns-in-Some-clause-below : goal.returns-in-Some-clause-below
returns-in-Some-clause-below c =
    let n = c.args.n in
    let len = length c.args.self.now.objects.items in
    let list = c.in-Some.list.value.items in
    let there = subst (λ o. IfSome o (λ l. are_below n l.value.items ≡ true)) c.in-Some.is c.in_ok-list.ensures.below in
    let is = c.as_slice.ensures.value ∙ ap (λ v. v.items) c.deref.ensures in
    let below = ap (are_below len) is ∙ below_wider n len list (omega (arith, c.requires)) there in
    IfOk-weaker c.and_all.result _ _ (λ all fits h. fits len h below) c.and_all.ensures.below
