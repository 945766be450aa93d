use Rattle.std.proofs.Common.{◌≡◌, ◌++◌, [], take, drop, map}
use Rattle.al_tree.specs.Keys.{keys_in}
use Rattle.al_tree.specs.Values.{firsts_by, member_of}
use Rattle.al_tree.specs.Declarations.{named_among}
use Rattle.al_tree.proofs.declarations.declared_in.Given as goal

-- the members found so far, followed by those of the rest with new names, are the first ones of each name
abbrev pub invariant-loop-i : goal.invariant-loop-i
invariant-loop-i l =
    map member_of l.found.items ++ firsts_by named_among (keys_in (map member_of (take l.i l.members))) (map member_of (drop l.i l.members))
    ≡ firsts_by named_among [] (map member_of l.members)
