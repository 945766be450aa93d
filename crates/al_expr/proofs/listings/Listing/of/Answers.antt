use Rattle.std.proofs.Common.{◌∷◌, ◌++◌, [], List, ◌∙◌, ap, arith, map, sym, take}
use Rattle.std.proofs.lemmas.List.{map-append, take_all}
use Rattle.al_types.specs.FusedFields.{are_distinct}
use Rattle.al_types.specs.Puts.{TypedName, firsts}
use Rattle.al_types.specs.Types.{parts_with}
use Rattle.al_types.proofs.GatheredFields.{firsts_distinct}
use Rattle.al_expr.specs.Trees.{field_of}
use Rattle.al_expr_types.proofs.Scans.{mapped_more}
use Rattle.al_expr.proofs.Firsts.{firsts_new, firsts_old, none_if}
use Rattle.al_expr.proofs.listings.Listing.of.Goals.{then-is_none+in_ok-copy_field+in_ok-push, else-is_none}
use Rattle.al_expr.proofs.listings.Listing.of.Goals as goal

pub loop-i-preserved : goal.loop-i-preserved
loop-i-preserved c =
    let x = c.index-fields-i.result in
    let p = field_of x in
    let old = c.loop-i.first.items in
    let ts : List TypedName = map field_of (take c.loop-i.i c.args.fields.now) in
    let more = sym (ap firsts (mapped_more field_of c.args.fields.now c.loop-i.i x c.loop-i-test.true c.index-fields-i.is)) in
    elim c.if-is_none.branch [
      | then-is_none+in_ok-copy_field+in_ok-push w ↦ ap (λ v. map field_of v.items) w.first-is ∙ ap (map field_of) w.in_ok-push.ensures.items
          ∙ map-append field_of old (w.in_ok-copy_field.field-0 ∷ []) ∙ (λ d. c.loop-i.invariant d ++ w.in_ok-copy_field.ensures d ∷ [])
          ∙ sym (firsts_new ts p (none_if _ _ _ _ c.position.ensures.place c.is_none.ensures w.if-is_none.true)) ∙ more
      | else-is_none w ↦ ap (λ v. map field_of v.items) w.first-is ∙ c.loop-i.invariant
          ∙ sym (firsts_old ts p (none_if _ _ _ _ c.position.ensures.place c.is_none.ensures w.if-is_none.false)) ∙ more
    ]

pub invariant_of-result : goal.invariant_of-result
invariant_of-result c =
    let fs = c.args.fields.now in
    let all = c.loop-i.invariant ∙ ap (λ xs. firsts (map field_of xs)) (take_all c.loop-i.i fs (omega (arith, c.loop-i-test.false))) in
    record { distinct = ap are_distinct all ∙ firsts_distinct (map field_of fs) }

pub returns : goal.returns
returns c =
    let fs = c.args.fields.now in
    let all = c.loop-i.invariant ∙ ap (λ xs. firsts (map field_of xs)) (take_all c.loop-i.i fs (omega (arith, c.loop-i-test.false))) in
    λ d. parts_with (all d) (c.in_ok-rest.ensures d)
