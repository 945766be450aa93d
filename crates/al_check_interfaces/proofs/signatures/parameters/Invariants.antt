use Rattle.std.proofs.Common.{◌≡◌, ◌++◌, drop, map}
use Rattle.al_tree.specs.Values.{member_of}
use Rattle.al_check_interfaces.specs.Interfaces.{parameter}
use Rattle.al_check_interfaces.proofs.signatures.parameters.Given as goal

abbrev pub invariant-loop-member : goal.invariant-loop-member
invariant-loop-member l = l.found.items ++ map (parameter l.by) (map member_of (drop l.member-index l.member-items)) ≡ map (parameter l.by) (map member_of l.member-items)
