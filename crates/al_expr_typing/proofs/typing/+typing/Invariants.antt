use Rattle.std.proofs.Common.{◌≡◌, [], map, drop, true}
use Rattle.al_base.specs.Growth.{BeginsWith}
use Rattle.al_expr_grammar.specs.Tree.{steps_of, operands_of, arguments_of}
use Rattle.al_expr_grammar.specs.View.{expr_view, step_of, operand_of}
use Rattle.al_expr_types.specs.Tables.{is_known, objects_of, type_at}
use Rattle.al_expr_typing.specs.Arguments.{are_known, argument_at}
use Rattle.al_expr_typing.specs.Chains.{has_operand, is_join_known, type_so_far}
use Rattle.al_expr_typing.specs.Scopes.{IsShown, scope_view}
use Rattle.al_expr_typing.specs.Meaning.{faults_then, walk, operations, meanings, all_after}
use Rattle.al_expr_typing.proofs.typing.+typing.Given as goal

abbrev pub invariant-walk-loop-step : goal.invariant-walk-loop-step
invariant-walk-loop-step l = record {
  kept : BeginsWith (objects_of l.types) (objects_of l.initial.types);
  shown : IsShown l.types l.left.around.scope.now;
  known : is_known l.types l.ty ≡ true;
  so_far : faults_then l.faults (walk (scope_view l.initial.types l.left.around.scope.now) l.left.around.safe (steps_of (map step_of (drop l.step-index l.steps))) (type_at l.types l.ty))
      ≡ faults_then l.initial.faults (walk (scope_view l.initial.types l.left.around.scope.now) l.left.around.safe (steps_of (map step_of l.steps)) (type_at l.initial.types l.left.ty));
}

abbrev pub invariant-operations-loop-operand : goal.invariant-operations-loop-operand
invariant-operations-loop-operand l = record {
  kept : BeginsWith (objects_of l.types) (objects_of l.initial.types);
  shown : IsShown l.types l.left.around.scope.now;
  below : is_join_known l.types l.all ≡ true;
  present : has_operand l.types l.all ≡ true;
  so_far : faults_then l.faults (operations (scope_view l.initial.types l.left.around.scope.now) l.left.around.safe (operands_of (map operand_of (drop l.operand-index l.operands)))
      (type_so_far l.types l.all)) ≡ faults_then l.initial.faults
      (operations (scope_view l.initial.types l.left.around.scope.now) l.left.around.safe (operands_of (map operand_of l.operands)) (type_at l.initial.types l.left.ty));
}

abbrev pub invariant-typed_arguments-loop-expr : goal.invariant-typed_arguments-loop-expr
invariant-typed_arguments-loop-expr l = record {
  kept : BeginsWith (objects_of l.types) (objects_of l.initial.types);
  shown : IsShown l.types l.around.scope.now;
  known : are_known l.types l.arguments.items ≡ true;
  so_far : all_after (map (argument_at l.types) l.arguments.items) l.faults
      (meanings (scope_view l.initial.types l.around.scope.now) l.around.safe (arguments_of (map expr_view (drop l.expr-index l.exprs))))
      ≡ all_after [] l.initial.faults (meanings (scope_view l.initial.types l.around.scope.now) l.around.safe (arguments_of (map expr_view l.exprs)));
}
