use Rattle.std.proofs.Common.{◌∙◌, ap, arith, length, map, refl}
use Rattle.std.proofs.lemmas.List.{take_all}
use Rattle.al_base.proofs.Growing.{begins_trans}
use Rattle.al_types.specs.Puts.{firsts}
use Rattle.al_types.specs.Types.{Present, fuse_optional, option_of, or_any}
use Rattle.al_yaml_tree.specs.View.{entries_of, entry_view, view}
use Rattle.al_expr_types.specs.Joining.{join_in}
use Rattle.al_expr_types.specs.Tables.{objects_of}
use Rattle.al_expr_types.proofs.Returned.{both_ok}
use Rattle.al_expr_types.proofs.Keeping.{joined_longer, joined_wider, longer}
use Rattle.al_check_objects.specs.Matrix.{fields_of, include_all}
use Rattle.al_check_objects.specs.Objects.{strictly}
use Rattle.al_check_objects.proofs.Values.{combination_by, include_next}
use Rattle.al_check_objects.proofs.matrix.include.Goals as goal

pub loop-node-preserved : goal.loop-node-preserved
loop-node-preserved c =
    let before = c.loop-node.types in
    let now = c.entries_type.new.types in
    let was = c.loop-node.invariant in
    let made = c.in_ok-ty.ensures in
    let entries = ap (λ es. firsts (fields_of (entries_of (map entry_view es.now)))) c.unwrap_or.ensures
    ∙ combination_by (view c.node-item.result) c.mapping.result _ refl c.mapping.ensures in
    let ty = made.ty.is ∙ ap strictly entries in
    let le = longer now.objects.items before.objects.items made.kept in
    let step = c.in_ok-all.ensures.ty (objects_of now)
    ∙ (λ d. fuse_optional (joined_longer now.objects.items before.objects.items c.loop-node.all made.kept was.below d) (Present (ty d))) in
    record {
      all = λ ts h. include_next view ts c.args.nodes.now c.loop-node.node-index c.node-item.result (join_in (objects_of before) c.loop-node.all) _
          c.loop-node-test.true c.node-item.is (was.all ts h) step;
      below = c.in_ok-all.ensures.below (length now.objects.items)
          (joined_wider (length before.objects.items) (length now.objects.items) le c.loop-node.all was.below) made.ty.known;
      kept = begins_trans (objects_of c.args.types.now) (objects_of before) (objects_of now) was.kept made.kept;
    }

pub returns-clause-ty : goal.returns-clause-ty
returns-clause-ty c =
    let nodes = take_all c.loop-node.node-index c.args.nodes.now (omega (arith, c.loop-node-test.false)) in
    both_ok c.type_or_any.result c.type_or_any.ensures.ty c.type_or_any.ensures.known
    (λ ty is known ts h. record {
      known = known;
      is = is ∙ ap (λ o. or_any (option_of o)) (c.loop-node.invariant.all ts h) ∙ ap (λ ns. strictly (include_all ts (map view ns))) nodes;
    })
