use Rattle.std.proofs.Common.{◌≡◌, ◌+◌, ◌∷◌, ◌++◌, [], map, drop, sym, ap, ◌∙◌, arith, length}
use Rattle.std.specs.Prelude.{not, ◌||◌}
use Rattle.std.proofs.Math.Bool.{or-true}
use Rattle.std.proofs.lemmas.List.{map-append, at_drop_all}
use Rattle.std.proofs.lemmas.Result.{IfOk-weaker}
use Rattle.al_expr_names.specs.Names.{function_of}
use Rattle.al_expr_grammar.specs.Extents.{extent}
use Rattle.al_expr_grammar.specs.Tree.{sign, steps_of, operands_of, arguments_of}
use Rattle.al_expr_grammar.specs.View.{expr_view, step_of, operand_of}
use Rattle.al_expr_grammar.proofs.Trees.{tree_of-Keyword, tree_of-Number, tree_of-Text, tree_of-Name, tree_of-Call, tree_of-Group, tree_of-Not, tree_of-Path, tree_of-Chain}
use Rattle.al_expr_grammar.proofs.Trees.{step_of-Property, step_of-All, step_of-Index}
use Rattle.al_expr_grammar.proofs.TreeViews.{operand_view}
use Rattle.al_expr_grammar.proofs.RestItems.{rest_item}
use Rattle.al_base.proofs.Growing.{begins_trans}
use Rattle.al_types.specs.Types.{Bool', String}
use Rattle.al_expr_types.specs.Tables.{is_known, objects_of, type_at}
use Rattle.al_expr_types.proofs.Below.{all_more}
use Rattle.al_expr_typing.specs.Arguments.{are_known, argument_at}
use Rattle.al_expr_typing.specs.Scopes.{scope_view}
use Rattle.al_expr_typing.specs.Meaning.{typed, faults_then, all_after, walk, operations, begins_logic, call_from, index_of, meanings}
use Rattle.al_expr_typing.specs.Chains.{type_so_far}
use Rattle.al_expr_typing.proofs.ChainLemmas.{join_stays, operand_stays, so_far_stays}
use Rattle.al_expr_types.proofs.Stays.{known_stays, type_stays}
use Rattle.al_expr_typing.proofs.Shown.{arguments_known, arguments_stay, scope_stays, shown_stays}
use Rattle.al_expr_typing.proofs.TypedSteps.{unchanged, follows}
use Rattle.al_expr_typing.proofs.Paths.{called_on, path_on, chained_on, indexed_on, meanings_on, walked_on}
use Rattle.al_expr_typing.proofs.typing.+typing.Goals as goal

pub expression-returns-in-Keyword-clause-ok : goal.expression-returns-in-Keyword-clause-ok
expression-returns-in-Keyword-clause-ok t c =
    let old = c.args.faults.now in
    rw (c.in-Keyword.is, tree_of-Keyword) (ap (λ u. typed u old) (c.scalar.ensures.ty (objects_of c.args.types.now) ∙ c.type_of_keyword.ensures) ∙ unchanged _ old)

pub expression-returns-in-Number-clause-ok : goal.expression-returns-in-Number-clause-ok
expression-returns-in-Number-clause-ok t c =
    let old = c.args.faults.now in
    rw (c.in-Number.is, tree_of-Number) (ap (λ u. typed u old) (c.scalar-in-Number.ensures.ty (objects_of c.args.types.now)) ∙ unchanged _ old)

pub expression-returns-in-Text-clause-ok : goal.expression-returns-in-Text-clause-ok
expression-returns-in-Text-clause-ok t c =
    rw (c.in-Text.is, tree_of-Text) (unchanged String c.args.faults.now)

pub expression-returns-in-Name-clause-ok : goal.expression-returns-in-Name-clause-ok
expression-returns-in-Name-clause-ok t c =
    rw (c.in-Name.is, tree_of-Name) (IfOk-weaker c.name_type.result _ _ (λ ty ok. ok (objects_of c.args.types.now)) c.name_type.ensures.ok)

pub expression-returns-in-Name-clause-known : goal.expression-returns-in-Name-clause-known
expression-returns-in-Name-clause-known t c =
    IfOk-weaker c.name_type.result _ _ (λ ty known. known c.args.types.now c.requires.shown) c.name_type.ensures.known

pub expression-returns-in-Group-clause-ok : goal.expression-returns-in-Group-clause-ok
expression-returns-in-Group-clause-ok t c =
    let f = rw c.deref.ensures at c.expression.ensures.ok in
    rw (c.in-Group.is, tree_of-Group) f

pub expression-returns-in_ok-_ty-in-Not-clause-ok : goal.expression-returns-in_ok-_ty-in-Not-clause-ok
expression-returns-in_ok-_ty-in-Not-clause-ok t c =
    let f = rw (c.safe_if.ensures.scope, c.safe_if.ensures.safe, or-true, c.deref-in-Not.ensures) at c.in_ok-_ty-in-Not.ensures.ok in
    let new = c.expression-in-Not.new.faults in
    rw (c.in-Not.is, tree_of-Not) (ap (λ u. typed u new) (c.scalar-in-Not.ensures.ty (objects_of c.expression-in-Not.new.types)) ∙ unchanged Bool' new
    ∙ follows _ _ _ _ (λ u. typed Bool' []) f)

pub expression-returns-in-Call-clause-ok : goal.expression-returns-in-Call-clause-ok
expression-returns-in-Call-clause-ok t c =
    let f = rw c.deref-in-Call.ensures.value at c.call.ensures.ok in
    rw (c.in-Call.is, tree_of-Call) f

pub expression-returns-in_ok-check_untrusted-in-Path-clause-ok : goal.expression-returns-in_ok-check_untrusted-in-Path-clause-ok
expression-returns-in_ok-check_untrusted-in-Path-clause-ok t c =
    let before = c.args.types.now in
    let mid = c.expression-in-Path.new.types in
    let ss = steps_of (map step_of c.in-Path.steps.items) in
    let f = rw c.deref-in-Path.ensures at c.in_ok-start-in-Path.ensures.ok in
    let same = scope_stays mid before c.args.around.scope.now c.in_ok-start-in-Path.ensures.kept c.requires.shown in
    let g = rw (c.deref-in-Path-2.ensures.value, same) at c.in_ok-ty-in-Path.ensures.ok in
    let h = rw (c.deref-in-Path-3.ensures, c.deref-in-Path-4.ensures.value) at c.in_ok-check_untrusted-in-Path.ensures in
    rw (c.in-Path.is, tree_of-Path) (path_on _ _ _ _ _ _ _ _ (λ u. walk (scope_view before c.args.around.scope.now) c.args.around.safe ss u) f g h)

pub expression-returns-in_ok-ty-in-Chain-clause-ok : goal.expression-returns-in_ok-ty-in-Chain-clause-ok
expression-returns-in_ok-ty-in-Chain-clause-ok t c =
    let before = c.args.types.now in
    let mid = c.expression-in-Chain.new.types in
    let os = operands_of (map operand_of c.in-Chain.operands.items) in
    let safe = c.args.around.safe || not (begins_logic os) in
    let f = rw (c.safe_if-around.ensures.scope, c.safe_if-around.ensures.safe, c.begins_logic.ensures, c.deref-in-Chain.ensures.value, c.deref-in-Chain-2.ensures) at c.in_ok-ty-in-Chain.ensures.ok in
    let same = scope_stays mid before c.args.around.scope.now c.in_ok-ty-in-Chain.ensures.kept c.requires.shown in
    rw (c.in-Chain.is, tree_of-Chain)
    (IfOk-weaker c.operations.result _ _ (λ ty g. g ∙ follows _ _ _ _ (λ u. operations (scope_view before c.args.around.scope.now) safe os u) f)
    (rw (c.safe_if-around.ensures.scope, c.safe_if-around.ensures.safe, c.begins_logic.ensures, c.deref-in-Chain.ensures.value, c.deref-in-Chain-3.ensures.value, same) at c.operations.ensures.ok))

pub call-returns-clause-ok : goal.call-returns-clause-ok
call-returns-clause-ok t c =
    let before = c.args.types.now in
    let mid = c.typed_arguments.new.types in
    let f : c.from_name-function.result ≡ function_of c.args.name.text.now = c.from_name-function.ensures in
    let g = rw (c.safe_if-tested.ensures.scope, c.safe_if-tested.ensures.safe, c.is_test.ensures, f) at c.in_ok-given.ensures.ok in
    let name = c.args.name.text.now in
    let ts = arguments_of (map expr_view c.args.arguments.now) in
    let s = ap (λ sc. faults_then c.typed_arguments.new.faults (call_from sc name c.args.name.span (function_of name) ts (map (argument_at mid) c.in_ok-given.given.items)))
    (scope_stays mid before c.args.around.scope.now c.in_ok-given.ensures.kept c.requires.shown) in
    IfOk-weaker c.call_from.result _ _
    (λ ty h. h (objects_of mid) ∙ s ∙ called_on (scope_view before c.args.around.scope.now) name c.args.name.span (function_of name) ts _ _ _ _ g)
    (rw (f, c.deref.ensures.value) at c.call_from.ensures.ok)

pub operations-operation-requires-clause-below : goal.operations-operation-requires-clause-below
operations-operation-requires-clause-below t c =
    join_stays c.expression.new.types c.loop-operand.types c.loop-operand.all c.in_ok-other.ensures.kept c.loop-operand.invariant.below

pub operations-operation-requires-clause-present : goal.operations-operation-requires-clause-present
operations-operation-requires-clause-present t c =
    operand_stays c.expression.new.types c.loop-operand.types c.loop-operand.all c.in_ok-other.ensures.kept c.loop-operand.invariant.below
    c.loop-operand.invariant.present

pub operations-loop-operand-preserved : goal.operations-loop-operand-preserved
operations-loop-operand-preserved t c =
    let before = c.args.types.now in
    let now = c.loop-operand.types in
    let mid = c.expression.new.types in
    let x = c.operand-item.result in
    let safe = c.args.left.around.safe in
    let u = type_at mid c.in_ok-other.other in
    let r = rest_item c.args.operands.now c.loop-operand.operand-index x c.loop-operand-test.true c.operand-item.is in
    let i = rw (r, operand_view x) at c.loop-operand.invariant.so_far in
    let e = rw (scope_stays now before c.args.left.around.scope.now c.loop-operand.invariant.kept c.requires.shown) at c.in_ok-other.ensures.ok in
    let f = rw (so_far_stays mid now c.loop-operand.all c.in_ok-other.ensures.kept c.loop-operand.invariant.below) at c.in_ok-all.ensures.ok in
    record {
      kept = begins_trans _ _ _ c.loop-operand.invariant.kept (begins_trans _ _ _ c.in_ok-other.ensures.kept c.in_ok-all.ensures.kept);
      shown = shown_stays c.operation.new.types mid c.args.left.around.scope.now c.in_ok-other.ensures.shown c.in_ok-all.ensures.kept;
      below = c.in_ok-all.ensures.below;
      present = c.in_ok-all.ensures.present;
      so_far = chained_on (scope_view before c.args.left.around.scope.now) safe (sign x.operator x.at, expr_view x.expr)
          (map operand_of (drop (c.loop-operand.operand-index + 1) c.args.operands.now)) (type_so_far now c.loop-operand.all) u
          (type_so_far c.operation.new.types c.in_ok-all.all) _ _ _ e f ∙ i;
    }

pub operations-returns-clause-ok : goal.operations-returns-clause-ok
operations-returns-clause-ok t c =
    let now = c.loop-operand.types in
    let out = c.loop-operand.faults in
    let all = type_so_far now c.loop-operand.all in
    let sc = scope_view c.args.types.now c.args.left.around.scope.now in
    let d = at_drop_all (λ l. faults_then out (operations sc c.args.left.around.safe (operands_of (map operand_of l)) all)) c.args.operands.now c.loop-operand.operand-index
    (omega (arith, c.loop-operand-test.false)) in
    IfOk-weaker c.type_or_any.result _ _ (λ ty is. ap (λ u. typed u out) is ∙ unchanged all out ∙ sym d ∙ c.loop-operand.invariant.so_far) c.type_or_any.ensures.ty

pub operations-returns-clause-shown : goal.operations-returns-clause-shown
operations-returns-clause-shown t c =
    shown_stays c.type_or_any.new.self c.loop-operand.types c.args.left.around.scope.now c.loop-operand.invariant.shown c.type_or_any.ensures.kept

pub operations-returns-clause-kept : goal.operations-returns-clause-kept
operations-returns-clause-kept t c = begins_trans _ _ _ c.loop-operand.invariant.kept c.type_or_any.ensures.kept

pub step_from-returns-in-Property-clause-ok : goal.step_from-returns-in-Property-clause-ok
step_from-returns-in-Property-clause-ok t c =
    let f = rw c.across.ensures at c.property.ensures.ok in
    rw (c.in-Property.is, step_of-Property) f

pub step_from-returns-in-All-clause-ok : goal.step_from-returns-in-All-clause-ok
step_from-returns-in-All-clause-ok t c =
    let f = rw c.across-in-All.ensures at c.all.ensures.ok in
    rw (c.in-All.is, step_of-All) f

pub step_from-returns-in-Index-clause-ok : goal.step_from-returns-in-Index-clause-ok
step_from-returns-in-Index-clause-ok t c =
    let f = rw c.across-in-Index.ensures at c.index_from.ensures.ok in
    rw (c.in-Index.is, step_of-Index) f

pub index_from-returns-in_ok-by-in-None-clause-ok : goal.index_from-returns-in_ok-by-in-None-clause-ok
index_from-returns-in_ok-by-in-None-clause-ok t c =
    let before = c.args.types.now in
    let new = c.expression.new.types in
    let by = type_at new c.in_ok-by-in-None.by in
    let same = ap (λ u. faults_then c.expression.new.faults (index_of c.args.whole u by))
    (type_stays new before c.args.left.ty c.in_ok-by-in-None.ensures.kept c.requires.known) in
    IfOk-weaker c.element.result _ _
    (λ of ok. indexed_on _ c.args.whole (type_at before c.args.left.ty) by (type_at new of) _ _ _ _ (rw c.in-None.is at c.in_ok-name.ensures)
    c.in_ok-by-in-None.ensures.ok (ok (objects_of new) ∙ same))
    c.element.ensures.ok

pub index_from-returns-in_ok-by-in-None-clause-known : goal.index_from-returns-in_ok-by-in-None-clause-known
index_from-returns-in_ok-by-in-None-clause-known t c =
    let new = c.expression.new.types in
    IfOk-weaker c.element.result _ _
    (λ of known. known (length new.objects.items) (known_stays new c.args.types.now c.args.left.ty c.in_ok-by-in-None.ensures.kept c.requires.known))
    c.element.ensures.known

pub typed_arguments-loop-expr-preserved : goal.typed_arguments-loop-expr-preserved
typed_arguments-loop-expr-preserved t c =
    let before = c.args.types.now in
    let now = c.loop-expr.types in
    let next = c.expression.new.types in
    let as' = c.loop-expr.arguments.items in
    let x = c.expr-item.result in
    let ty = type_at next c.in_ok-ty.ty in
    let out = c.expression.new.faults in
    let sc = scope_view before c.args.around.scope.now in
    let xs = map expr_view (drop (c.loop-expr.expr-index + 1) c.args.exprs.now) in
    let r = rest_item c.args.exprs.now c.loop-expr.expr-index x c.loop-expr-test.true c.expr-item.is in
    let i = rw r at c.loop-expr.invariant.so_far in
    let e = rw (scope_stays now before c.args.around.scope.now c.loop-expr.invariant.kept c.requires.shown) at c.in_ok-ty.ensures.ok in
    let m = meanings_on sc c.args.around.safe (expr_view x) xs ty (map (argument_at now) as') _ _ e in
    let a = ap (λ l. all_after (l ++ (ty, extent (expr_view x)) ∷ []) out (meanings sc c.args.around.safe (arguments_of xs)))
    (arguments_stay next now as' c.in_ok-ty.ensures.kept c.loop-expr.invariant.known) in
    record {
      kept = begins_trans _ _ _ c.loop-expr.invariant.kept c.in_ok-ty.ensures.kept;
      shown = c.in_ok-ty.ensures.shown;
      known = ap (are_known next) c.in_ok-push.ensures.items
          ∙ all_more (λ b. is_known next b.ty) as' _ (arguments_known next now as' c.in_ok-ty.ensures.kept c.loop-expr.invariant.known) c.in_ok-ty.ensures.known;
      so_far = rw (c.in_ok-push.ensures.items, map-append, c.extent.ensures) (a ∙ m ∙ i);
    }

pub walk-loop-step-preserved : goal.walk-loop-step-preserved
walk-loop-step-preserved t c =
    let before = c.args.types.now in
    let now = c.loop-step.types in
    let x = c.step-item.result in
    let here = type_at now c.loop-step.ty in
    let r = rest_item c.args.steps.now c.loop-step.step-index x c.loop-step-test.true c.step-item.is in
    let i = rw r at c.loop-step.invariant.so_far in
    let e = rw (scope_stays now before c.args.left.around.scope.now c.loop-step.invariant.kept c.requires.shown) at c.in_ok-ty.ensures.ok in
    record {
      kept = begins_trans _ _ _ c.loop-step.invariant.kept c.in_ok-ty.ensures.kept;
      shown = c.in_ok-ty.ensures.shown;
      known = c.in_ok-ty.ensures.known;
      so_far = walked_on (scope_view before c.args.left.around.scope.now) c.args.left.around.safe (step_of x)
          (map step_of (drop (c.loop-step.step-index + 1) c.args.steps.now)) here (type_at c.step_from.new.types c.in_ok-ty.ty) _ _ e ∙ i;
    }

pub expression-returns-in_err-ty-in-Path-clause-kept : goal.expression-returns-in_err-ty-in-Path-clause-kept
expression-returns-in_err-ty-in-Path-clause-kept t c = begins_trans _ _ _ c.in_ok-start-in-Path.ensures.kept c.walk.ensures.kept

pub expression-returns-in_ok-ty-in-Chain-clause-kept : goal.expression-returns-in_ok-ty-in-Chain-clause-kept
expression-returns-in_ok-ty-in-Chain-clause-kept t c = begins_trans _ _ _ c.in_ok-ty-in-Chain.ensures.kept c.operations.ensures.kept

pub call-returns-clause-known : goal.call-returns-clause-known
call-returns-clause-known t c =
    IfOk-weaker c.call_from.result _ _ (λ ty known. known (length c.typed_arguments.new.types.objects.items)) c.call_from.ensures.known

pub operations-returns-in_err-other-clause-kept : goal.operations-returns-in_err-other-clause-kept
operations-returns-in_err-other-clause-kept t c = begins_trans _ _ _ c.loop-operand.invariant.kept c.expression.ensures.kept

pub operations-returns-in_err-all-clause-kept : goal.operations-returns-in_err-all-clause-kept
operations-returns-in_err-all-clause-kept t c =
    begins_trans _ _ _ c.loop-operand.invariant.kept (begins_trans _ _ _ c.in_ok-other.ensures.kept c.operation.ensures.kept)

pub typed_arguments-returns-in_err-ty-clause-kept : goal.typed_arguments-returns-in_err-ty-clause-kept
typed_arguments-returns-in_err-ty-clause-kept t c = begins_trans _ _ _ c.loop-expr.invariant.kept c.expression.ensures.kept

pub walk-returns-in_err-ty-clause-kept : goal.walk-returns-in_err-ty-clause-kept
walk-returns-in_err-ty-clause-kept t c = begins_trans _ _ _ c.loop-step.invariant.kept c.step_from.ensures.kept
