use Rattle.std.proofs.Common.{◌≡◌, ◌+◌, ◌<◌, ◌∙◌, ap, arith, get_or, length, subst, sym}
use Rattle.std.proofs.lemmas.List.{get_or_default}
use Rattle.std.specs.List.{list_all}
use Rattle.al_expr_types.specs.Types.{is_below}
use Rattle.al_expr_types.specs.declared.ty.Base.TheVariants as base
use Rattle.al_expr_types.specs.declared.ty.Scalar.TheVariants as scalar
use Rattle.al_expr_types.specs.declared.ty.Ty.{Ty}
use Rattle.al_expr_types.proofs.Below.{all_at, all_more}
use Rattle.al_expr_types.proofs.PrefixLemmas.{IsAfter, after_more, after_none, after_same}
use Rattle.al_expr_types.proofs.prefixes.new_types.Goals as goal
use Rattle.al_expr_types.proofs.prefixes.new_types.Goals.{then-not-is_object_before+in_ok-push, else-not-is_object_before}

pub loop-i-init : goal.loop-i-init
loop-i-init c = record {
  part = subst (λ own. IsAfter c.args.types.now c.args.from own c.args.from) (sym c.new-own.ensures.items) (after_none c.args.types.now c.args.from);
  below = λ k h. ap (list_all (is_below k)) c.new-own.ensures.items;
}

pub loop-i-preserved : goal.loop-i-preserved
loop-i-preserved c =
    let ts = c.args.types.now in
    let i = c.loop-i.i in
    let any : Ty = record { arrays = 0; of = base.Scalar scalar.Any } in
    let ty : Ty = get_or ts i any in
    let lt : i < length ts = omega (arith, c.loop-i-test.true, c.requires.to) in
    let is = get_or_default ts i any ty lt in
    elim c.if-not-is_object_before.branch [
      | then-not-is_object_before+in_ok-push w ↦
          let items = ap (λ v. v.items) w.own-is ∙ w.in_ok-push.ensures.items in
          record {
            part = after_more ts c.loop-i.own.items c.if-not-is_object_before.own.items c.args.from i ty lt is items c.loop-i.invariant.part;
            below = λ k h. ap (list_all (is_below k)) items
                ∙ all_more (is_below k) c.loop-i.own.items ty (c.loop-i.invariant.below k h) (all_at (is_below k) ts i any lt h);
          }
      | else-not-is_object_before w ↦
          let items = ap (λ v. v.items) w.own-is in
          record {
            part = subst (λ own. IsAfter ts c.args.from own (i + 1)) (sym items)
                (after_same ts c.loop-i.own.items c.args.from i ty lt is (c.is_object_before.ensures w.if-not-is_object_before.false) c.loop-i.invariant.part);
            below = λ k h. ap (list_all (is_below k)) items ∙ c.loop-i.invariant.below k h;
          }
    ]

pub returns : goal.returns
returns c =
    let end : c.loop-i.i ≡ c.args.to = omega (arith, c.loop-i-test.false, c.loop-i.auto.i-end c.requires.from) in
    record { part = subst (λ n. IsAfter c.args.types.now c.args.from c.loop-i.own.items n) end c.loop-i.invariant.part; below = c.loop-i.invariant.below }
