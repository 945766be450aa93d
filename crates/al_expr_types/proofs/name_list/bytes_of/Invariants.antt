use Rattle.std.proofs.Common.{◌≡◌, map, take}
use Rattle.al_expr_types.proofs.name_list.bytes_of.Given as goal

abbrev pub invariant-loop-name : goal.invariant-loop-name
invariant-loop-name l = map (λ b. b.now) l.bytes.items ≡ take l.name-index l.names
