-- What some types have in common.
use Rattle.std.specs.Prelude.{ℕ, List, map, Bool, true}
use Rattle.al_types.specs.Types.{Type', Optional, Absent, Present, Parts, object_type}
use Rattle.al_types.specs.Fused.{fuse_all}
use Rattle.al_expr_types.specs.Types.{are_below, arrays_of, is_below, object_in, type_in}
use Rattle.al_expr_types.specs.declared.joining.Join.{Join}
use Rattle.al_expr_types.specs.declared.joining.Join.TheVariants as join
use Rattle.al_expr_types.specs.declared.joining.ObjectJoin.{ObjectJoin}

abbrev pub object_join_type : List Parts → ObjectJoin → Type'
object_join_type ms s =
    arrays_of s.arrays (object_type (fuse_all (map (object_in ms) s.objects.items)))

abbrev pub join_in : List Parts → Join → Optional
join_in ms join.Nothing = Absent
join_in ms (join.One t) = Present (type_in ms t)
join_in ms (join.Objects s) = Present (object_join_type ms s)

-- whether it refers only to objects with numbers below n
abbrev pub is_join_below : ℕ → Join → Bool
is_join_below n join.Nothing = true
is_join_below n (join.One t) = is_below n t
is_join_below n (join.Objects s) = are_below n s.objects.items
