use Rattle.std.proofs.Common.{◌∙◌, ap, arith, length, map, refl, sym}
use Rattle.std.proofs.lemmas.List.{drop_all}
use Rattle.std.proofs.lemmas.Result.{IfOk-weaker}
use Rattle.al_base.proofs.Growing.{begins_trans}
use Rattle.al_tree.specs.Keys.{key_of}
use Rattle.al_types.specs.Puts.{put_all, put_new}
use Rattle.al_types.specs.Types.{Present, fuse_optional, option_of, or_any}
use Rattle.al_yaml_tree.specs.View.{entries_of, entry_view, nodes_of, view}
use Rattle.al_yaml_tree.proofs.ViewLemmas.{entry_parts}
use Rattle.al_expr_types.specs.Joining.{join_in}
use Rattle.al_expr_types.specs.Tables.{objects_of}
use Rattle.al_expr_types.proofs.Returned.{begins_ok, both_ok}
use Rattle.al_expr_types.proofs.Keeping.{joined_longer, joined_wider, longer}
use Rattle.al_check_objects.specs.Matrix.{fields_of, items_type, node_type}
use Rattle.al_check_objects.specs.Objects.{strictly}
use Rattle.al_expr_types.specs.FieldMaps.{fields_in}
use Rattle.al_check_objects.proofs.Numbers.{always, lists_stay, means_as}
use Rattle.al_check_objects.proofs.Values.{entries_next, items_next}
use Rattle.al_check_objects.proofs.matrix.+values.Goals as goal

pub items_type-loop-node-preserved : goal.items_type-loop-node-preserved
items_type-loop-node-preserved t c =
    let before = c.loop-node.types in
    let now = c.node_type.new.types in
    let was = c.loop-node.invariant in
    let made = c.in_ok-ty.ensures in
    let le = longer now.objects.items before.objects.items made.kept in
    let step = c.in_ok-all.ensures.ty (objects_of now)
    ∙ (λ d. fuse_optional (joined_longer now.objects.items before.objects.items c.loop-node.all made.kept was.below d) (Present (made.ty.is d))) in
    record {
      all = items_next view c.args.nodes.now c.loop-node.node-index c.node-item.result (join_in (objects_of before) c.loop-node.all) _ c.loop-node-test.true
          c.node-item.is step ∙ was.all;
      below = c.in_ok-all.ensures.below (length now.objects.items)
          (joined_wider (length before.objects.items) (length now.objects.items) le c.loop-node.all was.below) made.ty.known;
      kept = begins_trans (objects_of c.args.types.now) (objects_of before) (objects_of now) was.kept made.kept;
    }

pub entries_type-loop-entry-preserved : goal.entries_type-loop-entry-preserved
entries_type-loop-entry-preserved t c =
    let before = c.loop-entry.types in
    let now = c.node_type.new.types in
    let was = c.loop-entry.invariant in
    let made = c.in_ok-ty.ensures in
    let fields = c.loop-entry.fields in
    let sofar = fields_in (objects_of before) fields.map in
    let x = c.entry-item.result in
    let lists = lists_stay now before fields sofar made.kept (record { known = was.known; are = refl }) in
    let more = c.in_ok-fields.ensures now sofar _ lists made.ty in
    record {
      all = entries_next c.args.entries.now c.loop-entry.entry-index x sofar _ c.loop-entry-test.true c.entry-item.is
          (more.are ∙ ap (λ n. put_new sofar (n, node_type (view x.value))) (c.key_of.ensures ∙ ap key_of (entry_parts x))) ∙ was.all;
      known = more.known;
      kept = begins_trans (objects_of c.args.types.now) (objects_of before) (objects_of now) was.kept made.kept;
    }

pub items_type-returns : goal.items_type-returns
items_type-returns t c =
    let sofar = join_in (objects_of c.loop-node.types) c.loop-node.all in
    let none = drop_all c.loop-node.node-index c.args.nodes.now (omega (arith, c.loop-node-test.false)) in
    let all = sym (ap (λ ns. items_type sofar (nodes_of (map view ns))) none) ∙ c.loop-node.invariant.all in
    record {
      ty = both_ok c.type_or_any.result c.type_or_any.ensures.ty c.type_or_any.ensures.known
          (λ ty is known. record { known = known; is = is ∙ ap (λ o. or_any (option_of o)) all });
      kept = always c.type_or_any.result (begins_trans _ _ _ c.loop-node.invariant.kept c.type_or_any.ensures.kept);
    }

pub entries_type-returns : goal.entries_type-returns
entries_type-returns t c =
    let types = c.loop-entry.types in
    let was = c.loop-entry.invariant in
    let fields = fields_in (objects_of types) c.loop-entry.fields.map in
    let none = drop_all c.loop-entry.entry-index c.args.entries.now (omega (arith, c.loop-entry-test.false)) in
    let all = ap strictly (sym (ap (λ ys. put_all put_new fields (fields_of (entries_of (map entry_view ys)))) none) ∙ was.all) in
    record {
      ty = IfOk-weaker c.into_type.result _ _
          (λ ty means. means_as c.into_type.new.types ty _ _ all (means fields (record { known = was.known; are = refl }))) c.into_type.ensures.ty;
      kept = begins_ok c.into_type.result _ _ _ was.kept c.into_type.ensures.kept;
    }
