use Rattle.std.proofs.Common.{◌≡◌, ◌++◌, drop, map, take}
use Rattle.std.specs.List.{flat_map}
use Rattle.al_tree.specs.Values.{member_of}
use Rattle.al_check_calls.specs.Private.ComparisonViews.{compared_of, name_of}
use Rattle.al_check_calls.specs.Private.Comparing.{name_by, names_by}
use Rattle.al_check_calls.proofs.undefined.names_given.Given as goal

abbrev pub invariant-loop-by : goal.invariant-loop-by
invariant-loop-by l = map name_of l.found.items ≡ flat_map names_by (map compared_of (take l.by-index l.calls))

abbrev pub invariant-loop-member : goal.invariant-loop-member
invariant-loop-member l =
    map name_of l.found.items ++ map (name_by (compared_of l.by)) (map member_of (drop l.member-index l.member-items))
    ≡ map name_of l.initial.found.items ++ map (name_by (compared_of l.by)) (map member_of l.member-items)
