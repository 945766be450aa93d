use Rattle.std.proofs.Common.{[], ◌++◌, ◌∙◌, ap, append-nil, arith, map}
use Rattle.std.proofs.lemmas.List.{drop_all}
use Rattle.al_base.proofs.Sets.{list_more}
use Rattle.al_tree.specs.Values.{member_of}
use Rattle.al_check_calls.specs.Private.ComparisonViews.{compared_of, name_of}
use Rattle.al_check_calls.specs.Private.Comparing.{name_by, names_by}
use Rattle.al_check_calls.proofs.undefined.names_given.Goals as goal

pub loop-by-preserved : goal.loop-by-preserved
loop-by-preserved c =
    let before = map name_of c.loop-by.found.items in
    let done = rw (drop_all c.loop-member.member-index c.deref-member-items.result.now (omega (arith, c.loop-member-test.false)), append-nil) at c.loop-member.invariant in
    list_more names_by compared_of c.args.calls.now c.loop-by.by-index c.by-item.result [] before (map name_of c.loop-member.found.items)
    c.loop-by-test.true c.by-item.is c.loop-by.invariant
    (done ∙ ap (λ ms. before ++ map (name_by (compared_of c.by-item.result)) ms) (ap (map member_of) c.deref-member-items.ensures.value ∙ c.in_ok-given_by.ensures))
