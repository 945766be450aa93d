use Rattle.std.proofs.Common.{◌≡◌, ◌++◌, map}
use Rattle.al_check_expressions.specs.Contents.{content_faults, fault_in_file}
use Rattle.al_expr_typing.specs.Scopes.{scope_view}
use Rattle.al_check_expressions.proofs.contents.check_expression.Given as goal

abbrev pub invariant-loop-fault : goal.invariant-loop-fault
invariant-loop-fault l = l.faults ++ map (fault_in_file l.text.scalar.now l.start) l.fault-iterator.rest.items
    ≡ l.fn.faults ++ map (fault_in_file l.text.scalar.now l.start)
    (content_faults (scope_view l.fn.types l.text.scope.now) l.text.is_lone l.text.is_scalar_only l.content)
