use Rattle.std.proofs.Common.{◌++◌, map, take}
use Rattle.std.specs.Prelude.{Contains, IfSome}
use Rattle.std.specs.List.{flat_map}
use Rattle.al_base.specs.Growth.{SameSet}
use Rattle.al_check_calls.specs.Private.ComparisonViews.{name_of}
use Rattle.al_check_calls.specs.Private.Comparing.{AreThere, undefined_at}
use Rattle.al_check_calls.proofs.undefined.check_undefined.Given as goal

abbrev pub invariant-loop-name : goal.invariant-loop-name
invariant-loop-name l = record {
  there : IfSome l.previous (λ p. Contains (map name_of l.name-items) (name_of p));
  said : IfSome l.previous (λ p. AreThere (undefined_at (name_of p)) l.faults);
  set : SameSet l.faults (l.fn.faults ++ flat_map undefined_at (map name_of (take l.name-index l.name-items)));
}
