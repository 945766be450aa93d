use Rattle.std.proofs.Common.{◌≡◌, ◌++◌, drop, map}
use Rattle.al_tree.specs.Keys.{key_of}
use Rattle.al_tree.specs.Values.{member_of}
use Rattle.al_check_interfaces.proofs.signatures.declared_names.Given as goal

abbrev pub invariant-loop-member : goal.invariant-loop-member
invariant-loop-member l = l.names.items ++ map key_of (map member_of (drop l.member-index l.member-items)) ≡ map key_of (map member_of l.member-items)
