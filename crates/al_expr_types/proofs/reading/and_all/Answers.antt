use Rattle.std.proofs.Common.{get_or, map}
use Rattle.std.proofs.lemmas.List.{get_or_default}
use Rattle.al_types.specs.Types.{Present}
use Rattle.al_expr_types.specs.Joining.{join_in}
use Rattle.al_expr_types.specs.Types.{common_of, is_below, type_in}
use Rattle.al_expr_types.specs.declared.ty.Base.TheVariants as base
use Rattle.al_expr_types.specs.declared.ty.Scalar.TheVariants as scalar
use Rattle.al_expr_types.specs.declared.ty.Ty.{Ty}
use Rattle.al_expr_types.proofs.Below.{all_at}
use Rattle.al_expr_types.proofs.Gathering.{next, types_more}
use Rattle.al_expr_types.proofs.reading.and_all.Goals as goal

pub loop-ty-preserved : goal.loop-ty-preserved
loop-ty-preserved c =
    let ts = c.args.types.now in
    let i = c.loop-ty.ty-index in
    let any : Ty = record { arrays = 0; of = base.Scalar scalar.Any } in
    let ty : Ty = get_or ts i any in
    let is = get_or_default ts i any ty c.loop-ty-test.true in
    record {
      part = λ ms. next (λ us. common_of (map (type_in ms) us)) (λ u. Present (type_in ms u)) (types_more (type_in ms)) ts i ty
          (join_in ms c.args.so_far) (join_in ms c.loop-ty.all) (join_in ms c.in_ok-all.all) c.loop-ty-test.true is
          (c.loop-ty.invariant.part ms) (c.in_ok-all.ensures.ty ms);
      below = λ n h k. c.in_ok-all.ensures.below n (c.loop-ty.invariant.below n h k) (all_at (is_below n) ts i any c.loop-ty-test.true h);
    }
