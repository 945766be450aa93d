use Rattle.std.proofs.Common.{◌≡◌, ◌∙◌, ap, arith, length, subst, true}
use Rattle.std.specs.Prelude.{IfSome}
use Rattle.al_base.proofs.Growing.{begins_trans}
use Rattle.al_expr_types.specs.Types.{are_below, parts_of_all}
use Rattle.al_expr_types.proofs.Below.{number_at}
use Rattle.al_expr_types.proofs.Keeping.{longer}
use Rattle.al_expr_types.proofs.types.Types.+prepare.Goals as goal

pub prepare-requires : goal.prepare-requires
prepare-requires t c =
    let os = c.args.self.now.objects.items in
    let n = c.args.n in
    let ns = c.as_slice-m-items.result.now in
    let below = ap (are_below n) (c.as_slice-m-items.ensures.value ∙ ap (λ v. v.items) c.deref.ensures)
    ∙ subst (λ o. IfSome o (λ v. are_below n v.value.items ≡ true)) c.in-Some.is c.in_ok-of.ensures.below in
    let lt = number_at n ns c.loop-m.m-index c.loop-m-test.true below in
    let le = longer c.loop-m.self.objects.items os c.loop-m.invariant in
    (omega (arith, lt, c.decreases), omega (arith, lt, c.requires, le))

pub loop-m-preserved : goal.loop-m-preserved
loop-m-preserved t c =
    begins_trans (parts_of_all c.args.self.now.objects.items) (parts_of_all c.loop-m.self.objects.items) (parts_of_all c.prepare.new.self.objects.items)
    c.loop-m.invariant c.prepare.ensures.kept

pub index-requires : goal.index-requires
index-requires t c =
    let le = longer c.loop-m.self.objects.items c.args.self.now.objects.items c.loop-m.invariant in
    omega (arith, c.requires, le, ap (λ os. length os.items) c.is_due.ensures)
