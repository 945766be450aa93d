use Rattle.std.proofs.Common.{◌≡◌, ◌∙◌, ap, ap₂, rules, slice_get}
use Rattle.std.specs.Ordering.{ordering_then}
use Rattle.al_base.proofs.TwoTexts.{compare, copied_cmp, then_by, two_cmp}
use Rattle.al_base.proofs.args.ArgsOrd.cmp.Goals as goal

pub returns : goal.returns
returns c =
    let a = c.args.self.now in
    let b = c.args.other.now in
    let second = compare (slice_get a 1) (slice_get b 1) in
    let first : c.cmp.result ≡ compare (slice_get a 0) (slice_get b 0) =
    c.cmp.ensures ∙ copied_cmp c.first.result c.first-2.result ∙ ap₂ compare c.first.ensures.is c.first-2.ensures.is in
    then_by c.cmp.result c.then_with.result second _ c.then_with.ensures (λ called. search (rules, copied_cmp))
    ∙ ap (λ o. ordering_then o second) first ∙ two_cmp a b c.first.ensures.few c.first-2.ensures.few
