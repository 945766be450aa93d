use Rattle.std.proofs.Common.{◌≡◌, ◌++◌, [], take, drop, map}
use Rattle.al_yaml_tree.specs.View.{entry_view}
use Rattle.al_tree.specs.Keys.{keys_in}
use Rattle.al_tree.specs.Values.{member_of}
use Rattle.al_base.specs.Names.{among}
use Rattle.al_tree.specs.Values.{firsts_by}
use Rattle.al_tree.proofs.values.members.Given as goal

-- the members found so far, followed by those of the rest with new keys, are the first ones of each key
abbrev pub invariant-loop-i : goal.invariant-loop-i
invariant-loop-i l =
    map member_of l.firsts.items ++ firsts_by among (keys_in (map entry_view (take l.i l.entries))) (map entry_view (drop l.i l.entries))
    ≡ firsts_by among [] (map entry_view l.entries)
