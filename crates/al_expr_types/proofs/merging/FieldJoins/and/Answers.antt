use Rattle.std.proofs.Common.{◌∙◌, ap, arith, sym}
use Rattle.std.proofs.lemmas.List.{get_or_default}
use Rattle.al_base.specs.NamePlaces.{name_place}
use Rattle.al_types.specs.Types.{Present, fuse_optional}
use Rattle.al_expr_types.specs.Joining.{is_join_below, join_in}
use Rattle.al_expr_types.specs.Merging.{slot_in}
use Rattle.al_expr_types.specs.Names.{names_in}
use Rattle.al_expr_types.specs.Types.{type_in}
use Rattle.al_expr_types.specs.declared.joining.Join.TheVariants as joined
use Rattle.al_expr_types.proofs.Below.{all_at}
use Rattle.al_expr_types.proofs.Merges.{all_set, joined_at, joined_within, pushed_after}
use Rattle.al_expr_types.proofs.merging.FieldJoins.and.Goals as goal

pub returns-in_default-clause-found : goal.returns-in_default-clause-found
returns-in_default-clause-found c = λ ms d n.
    let ns = names_in c.args.self.names in
    let js = c.args.self.joins.items in
    ((λ e. slot_in ms (c.in_ok-push.ensures.items e) (name_place (c.in_ok-names.ensures e) n))
    ∙ pushed_after ms ns js c.args.name.now (joined.One c.args.ty) (sym c.in_ok-i.ensures ∙ c.in_default.is) c.args.self.even n) d

pub index_mut-slot-requires : goal.index_mut-slot-requires
index_mut-slot-requires c =
    let lt = joined_within c.args.self c.args.name.now c.in-Some.i (sym c.in_ok-i.ensures ∙ c.in-Some.is) in omega (arith, lt, c.args.self.joins.ok.0)

pub returns : goal.returns
returns c =
    let ns = names_in c.args.self.names in
    let js = c.args.self.joins.items in
    let i = c.in-Some.i in
    let x = c.in_ok-slot.field-0 in
    let old = c.index_mut-slot.result.now in
    let at = sym c.in_ok-i.ensures ∙ c.in-Some.is in
    let lt = joined_within c.args.self c.args.name.now i at in
    let was = c.replace.ensures.value ∙ c.index_mut-slot.ensures.value in
    record {
      found = λ ms d n.
          let more = Present (type_in ms c.args.ty) in
          let there = was ∙ get_or_default js i old joined.Nothing lt in
          joined_at ms ns js c.args.name.now i x more at lt (c.in_ok-slot.ensures.ty ms ∙ ap (λ j. fuse_optional (join_in ms j) more) there) n d;
      below = λ k h g.
          let there = ap (is_join_below k) was ∙ all_at (is_join_below k) js i old lt h in
          all_set (is_join_below k) js i x h (c.in_ok-slot.ensures.below k there g);
    }
