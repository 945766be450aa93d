use Rattle.std.proofs.Common.{◌≡◌, ◌<◌, ◌∙◌, ap, arith, length, refl, subst, sym, true}
use Rattle.std.specs.Prelude.{IfSome, option_map}
use Rattle.al_base.proofs.Growing.{begins_trans}
use Rattle.al_types.specs.Types.{option_of}
use Rattle.al_types.proofs.FuseLaws.{optional_back}
use Rattle.al_expr_types.specs.Kept.{IsCommon}
use Rattle.al_expr_types.specs.Types.{are_below, parts_of_all, type_in}
use Rattle.al_expr_types.proofs.Below.{number_at}
use Rattle.al_expr_types.proofs.Gathering.{rest_is}
use Rattle.al_expr_types.proofs.Keeping.{kept_answer, longer, same_there}
use Rattle.al_expr_types.proofs.types.Types.+commons.Goals as goal

pub common-gather-requires : goal.common-gather-requires
common-gather-requires t c =
    let le = longer c.make_commons.new.self.objects.items c.args.self.now.objects.items c.make_commons.ensures in
    omega (arith, c.requires, le)

pub common-join_type-requires : goal.common-join_type-requires
common-join_type-requires t c = c.in_ok-all.ensures.below refl

pub common-keep_common-requires : goal.common-keep_common-requires
common-keep_common-requires t c =
    let middle = c.make_commons.new.self.objects.items in
    let after = c.join_type.new.self.objects.items in
    let made = c.in_ok-common in
    let all = c.in_ok-all in
    let le = longer middle c.args.self.now.objects.items c.make_commons.ensures in
    let more = longer after middle made.ensures.kept in
    let there : c.args.n < length middle = omega (arith, c.requires, le) in (
      omega (arith, there, more),
      made.ensures.known,
      rest_is (parts_of_all after) made.common ∙ made.ensures.ty ∙ all.ensures.part ∙ ap (λ p. p.2) (sym (same_there after middle c.args.n made.ensures.kept there)),
    )

pub common-returns-in-Some-clause-ty : goal.common-returns-in-Some-clause-ty
common-returns-in-Some-clause-ty t c =
    let os = c.args.self.now.objects.items in
    kept_answer os c.args.n c.in-Some.common (subst (λ o. IfSome o (IsCommon os c.args.n)) c.in-Some.is c.kept_common.ensures)

pub common-returns-clause-ty : goal.common-returns-clause-ty
common-returns-clause-ty t c =
    let before = c.args.self.now.objects.items in
    let middle = c.make_commons.new.self.objects.items in
    let after = c.join_type.new.self.objects.items in
    let made = c.in_ok-common in
    ap (λ os. option_map (type_in (parts_of_all os.items)) made.common) c.keep_common.ensures ∙ sym (optional_back (option_map (type_in (parts_of_all after)) made.common))
    ∙ ap option_of (made.ensures.ty ∙ c.in_ok-all.ensures.part ∙ ap (λ p. p.2) (same_there middle before c.args.n c.make_commons.ensures c.requires))

pub common-returns-in-Some-clause-known : goal.common-returns-in-Some-clause-known
common-returns-in-Some-clause-known t c =
    (subst (λ o. IfSome o (IsCommon c.args.self.now.objects.items c.args.n)) c.in-Some.is c.kept_common.ensures).1

pub make_commons-common-requires-in-loop-m : goal.make_commons-common-requires-in-loop-m
make_commons-common-requires-in-loop-m t c =
    let os = c.args.self.now.objects.items in
    let n = c.args.n in
    let ns = c.as_slice-m-items.result.now in
    let below = ap (are_below n) (c.as_slice-m-items.ensures.value ∙ ap (λ v. v.items) c.deref.ensures)
    ∙ subst (λ o. IfSome o (λ v. are_below n v.value.items ≡ true)) c.in-Some-2.is c.in_ok-of.ensures.below in
    let lt = number_at n ns c.loop-m.m-index c.loop-m-test.true below in
    let le = longer c.loop-m.self.objects.items os c.loop-m.invariant in
    (omega (arith, lt, c.decreases), omega (arith, lt, c.requires, le))

pub make_commons-loop-m-preserved : goal.make_commons-loop-m-preserved
make_commons-loop-m-preserved t c =
    begins_trans (parts_of_all c.args.self.now.objects.items) (parts_of_all c.loop-m.self.objects.items) (parts_of_all c.common-in-loop-m.new.self.objects.items)
    c.loop-m.invariant c.common-in-loop-m.ensures.kept
