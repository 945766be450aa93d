use Rattle.std.proofs.Common.{◌≡◌, ◌∙◌, ap, length, sym, true}
use Rattle.std.specs.List.{list_all}
use Rattle.std.specs.Prelude.{option_map}
use Rattle.al_base.proofs.Growing.{begins_trans}
use Rattle.al_types.specs.Types.{optional}
use Rattle.al_expr_types.specs.Joining.{is_join_below}
use Rattle.al_expr_types.specs.Types.{is_below, is_rest_below, parts_of_all, type_in}
use Rattle.al_expr_types.proofs.Below.{all_at, all_more, types_same}
use Rattle.al_expr_types.proofs.Keeping.{has_old, joined_wider, longer, made_next}
use Rattle.al_expr_types.proofs.types.Types.types_of.Goals as goal

pub join_type-requires : goal.join_type-requires
join_type-requires c =
    let entry = c.args.self.now.objects.items in
    let now = c.loop-join.self.objects.items in
    let js = c.as_slice-join-items.result.now in
    let j = c.join-item.result in
    let all = ap (list_all (is_join_below (length entry))) c.as_slice-join-items.ensures ∙ c.requires in
    let below = ap (is_join_below (length entry)) c.join-item.is ∙ all_at (is_join_below (length entry)) js c.loop-join.join-index j c.loop-join-test.true all in
    c.in_ok-copy.ensures.below (length now) (joined_wider (length entry) (length now) (longer now entry c.loop-join.invariant.kept) j below)

pub loop-join-preserved : goal.loop-join-preserved
loop-join-preserved c =
    let entry = c.args.self.now.objects.items in
    let now = c.loop-join.self.objects.items in
    let next = c.join_type.new.self.objects.items in
    let js = c.as_slice-join-items.result.now in
    let i = c.loop-join.join-index in
    let j = c.join-item.result in
    let ts = c.loop-join.types.items in
    let ty = c.in-Some.ty in
    let made = c.in_ok-ty in
    let all = ap (list_all (is_join_below (length entry))) c.as_slice-join-items.ensures ∙ c.requires in
    let below = ap (is_join_below (length entry)) c.join-item.is ∙ all_at (is_join_below (length entry)) js i j c.loop-join-test.true all in
    let step = sym (ap (λ o. optional (option_map (type_in (parts_of_all next)) o)) c.in-Some.is) ∙ made.ensures.ty ∙ c.in_ok-copy.ensures.ty (parts_of_all now) in
    let there : is_below (length next) ty ≡ true = sym (ap (is_rest_below (length next)) c.in-Some.is) ∙ made.ensures.known in
    record {
      kept = begins_trans (parts_of_all entry) (parts_of_all now) (parts_of_all next) c.loop-join.invariant.kept made.ensures.kept;
      types = made_next entry now next js i j ts c.push.new.self.items ty c.loop-join.invariant.kept made.ensures.kept c.loop-join-test.true c.join-item.is
          below c.loop-join.invariant.known c.in_ok-push-in-Some.ensures.items c.loop-join.invariant.types step;
      known = ap (list_all (is_below (length next))) c.in_ok-push-in-Some.ensures.items
          ∙ all_more (is_below (length next)) ts ty (types_same _ _ (length now) (length next) (has_old next now made.ensures.kept) ts c.loop-join.invariant.known).0 there;
    }
