use Rattle.std.proofs.Common.{◌≡◌, ◌++◌, map, take}
use Rattle.std.specs.List.{flat_map}
use Rattle.al_check_calls.specs.Private.ComparisonViews.{compared_of}
use Rattle.al_check_calls.specs.Private.Comparing.{fault_unless_given, parameter_if_given}
use Rattle.al_check_calls.proofs.missing.check_parameters.Given as goal

abbrev pub invariant-loop-parameter : goal.invariant-loop-parameter
invariant-loop-parameter l =
    let before = map (λ p. p.now) (take l.parameter-index l.parameters) in
    record {
      faults : l.faults ≡ l.fn.faults ++ flat_map (fault_unless_given (compared_of l.call)) before;
      left : map (λ p. p.now) l.left.items ≡ flat_map (parameter_if_given (compared_of l.call)) before;
    }
