use Rattle.std.proofs.Common.{[], ◌++◌, sym, ap, ◌∙◌}
use Rattle.std.proofs.lemmas.Result.{IfOk-weaker}
use Rattle.std.specs.Prelude.{not}
use Rattle.al_base.specs.declared.codes.ExpressionCode.TheVariants as code
use Rattle.al_expr_grammar.specs.Refusal.{expression_fault}
use Rattle.al_expr_typing.specs.Comparison.{comparable_types}
use Rattle.al_expr_typing.specs.Meaning.{typed, give}
use Rattle.al_expr_types.specs.Joining.{join_in}
use Rattle.al_expr_types.specs.Tables.{objects_of, type_at}
use Rattle.al_expr_typing.specs.Chains.{type_so_far}
use Rattle.al_expr_typing.proofs.ChainLemmas.{chosen, compared, more_fused}
use Rattle.al_expr_types.proofs.Stays.{type_stays}
use Rattle.al_expr_typing.proofs.chains.operation.Goals as goal

pub returns-then-is_logic-clause-ok : goal.returns-then-is_logic-clause-ok
returns-then-is_logic-clause-ok c =
    let types = c.args.types.now in
    let ms = objects_of types in
    let all = c.args.so_far in
    let u = type_at types c.args.operand.ty in
    IfOk-weaker c.and.result _ _
    (λ j is. chosen c.args.operand.operator c.args.operand.at (type_so_far types all) u _ c.args.faults.now (sym c.is_logic.ensures ∙ c.if-is_logic.true)
    (more_fused (join_in ms all) (join_in ms j) u c.requires.present (is ms)).0)
    c.and.ensures.ty

pub returns-then-is_logic-clause-present : goal.returns-then-is_logic-clause-present
returns-then-is_logic-clause-present c =
    let ms = objects_of c.args.types.now in
    IfOk-weaker c.and.result _ _
    (λ j is. (more_fused (join_in ms c.args.so_far) (join_in ms j) (type_at c.args.types.now c.args.operand.ty) c.requires.present (is ms)).1) c.and.ensures.ty

pub returns-clause-ok : goal.returns-clause-ok
returns-clause-ok c =
    let old = c.args.types.now in
    let new = c.type_or_any.new.self in
    let out = c.args.faults.now in
    let after = c.check_comparison.new.faults in
    let first = c.in_ok-first.ensures.ty in
    let other = type_stays new old c.args.operand.ty c.in_ok-first.ensures.kept c.requires.other in
    let faults = c.in_ok-check_comparison.ensures (objects_of new)
    ∙ (λ d. out ++ give (not (comparable_types c.args.operand.operator (first d) (other d))) (expression_fault code.NotComparable c.args.operand.at [])) in
    ap (λ t. typed t after) (c.scalar.ensures.ty (objects_of new))
    ∙ compared c.args.operand.operator c.args.operand.at (type_so_far old c.args.so_far) (type_at old c.args.operand.ty) out after (sym c.is_logic.ensures ∙ c.if-is_logic.false) faults
