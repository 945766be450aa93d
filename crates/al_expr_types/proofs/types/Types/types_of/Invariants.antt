use Rattle.std.proofs.Common.{◌≡◌, map, take, length, true}
use Rattle.std.specs.List.{list_all}
use Rattle.al_base.specs.Growth.{BeginsWith}
use Rattle.al_types.specs.Types.{Present}
use Rattle.al_expr_types.specs.Joining.{join_in}
use Rattle.al_expr_types.specs.Tables.{objects_of}
use Rattle.al_expr_types.specs.Types.{is_below, type_in}
use Rattle.al_expr_types.proofs.types.Types.types_of.Given as goal

abbrev pub invariant-loop-join : goal.invariant-loop-join
invariant-loop-join l = record {
  kept : BeginsWith (objects_of l.self) (objects_of l.fn.self);
  types : map (λ u. Present (type_in (objects_of l.self) u)) l.types.items ≡ map (join_in (objects_of l.fn.self)) (take l.join-index l.join-items);
  known : list_all (is_below (length l.self.objects.items)) l.types.items ≡ true;
}
