use Rattle.std.proofs.Common.{◌≡◌, take, map}
use Rattle.al_tree.specs.Keys.{keys_in}
use Rattle.al_tree.specs.Values.{member_of}
use Rattle.al_tree.proofs.values.key_texts.Given as goal

abbrev pub invariant-loop-member : goal.invariant-loop-member
invariant-loop-member l = map (λ k. k.now) l.keys.items ≡ keys_in (map member_of (take l.member-index l.members))
