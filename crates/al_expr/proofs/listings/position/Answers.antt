use Rattle.std.proofs.Common.{◌≡◌, ◌∙◌, sym}
use Rattle.al_base.specs.Names.{same_name}
use Rattle.al_types.specs.Indexes.{named_as}
use Rattle.al_expr.specs.Trees.{field_of}
use Rattle.al_expr_types.proofs.Scans.{found_here, missed_here}
use Rattle.al_expr.proofs.listings.position.Goals as goal

pub returns-then-is_same_name-clause-place : goal.returns-then-is_same_name-clause-place
returns-then-is_same_name-clause-place c =
    let x = c.index-fields-i.result in
    let n = (field_of c.args.other.now).0 in
    let same : named_as n (field_of x) ≡ c.is_same_name.result =
    sym (c.is_same_name.ensures ∙ (λ d. same_name (c.as_bytes.ensures.value d) (c.as_bytes-in-loop-i.ensures.value d))) in
    sym (found_here field_of (named_as n) c.args.fields.now c.loop-i.i x c.loop-i-test.true c.index-fields-i.is c.loop-i.invariant (same ∙ c.if-is_same_name.true))

pub loop-i-preserved : goal.loop-i-preserved
loop-i-preserved c =
    let x = c.index-fields-i.result in
    let n = (field_of c.args.other.now).0 in
    let same : named_as n (field_of x) ≡ c.is_same_name.result =
    sym (c.is_same_name.ensures ∙ (λ d. same_name (c.as_bytes.ensures.value d) (c.as_bytes-in-loop-i.ensures.value d))) in
    missed_here field_of (named_as n) c.args.fields.now c.loop-i.i x c.loop-i-test.true c.index-fields-i.is c.loop-i.invariant (same ∙ c.if-is_same_name.false)
