use Rattle.std.proofs.Common.{◌++◌, map, take}
use Rattle.std.specs.Prelude.{Contains, IfSome}
use Rattle.std.specs.List.{flat_map}
use Rattle.al_base.specs.Growth.{SameSet}
use Rattle.al_check_calls.specs.Private.ComparisonViews.{compared_of}
use Rattle.al_check_calls.specs.Private.Comparing.{IsSaid, missing_of}
use Rattle.al_check_calls.proofs.missing.check_missing.Given as goal

abbrev pub invariant-loop-call : goal.invariant-loop-call
invariant-loop-call l = record {
  there : IfSome l.previous (λ p. Contains (map compared_of l.call-items) (compared_of p));
  said : IfSome l.previous (λ p. IsSaid (compared_of p) (map (λ q. q.now) l.left.items) l.faults);
  set : SameSet l.faults (l.fn.faults ++ flat_map missing_of (map compared_of (take l.call-index l.call-items)));
}
