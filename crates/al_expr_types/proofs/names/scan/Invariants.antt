use Rattle.std.proofs.Common.{◌≡◌, None, map, take}
use Rattle.al_base.specs.NamePlaces.{name_place}
use Rattle.al_expr_types.proofs.names.scan.Given as goal

abbrev pub invariant-loop-i : goal.invariant-loop-i
invariant-loop-i l = name_place (map (λ n. n.now) (take l.i l.names)) l.name ≡ None
